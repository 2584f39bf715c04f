-- Two inputs of one length, compared up to a position and from behind it on, which is everywhere else. Assumes nothing.
use Rattle.std.proofs.Common.{◌≡◌, ℕ, ◌+◌, ◌-◌, ◌<◌, min, Bool, true, false, not, ◌||◌, ltb, List, length, get_or, take, drop, refl, sym, ap, ◌∙◌, arith}
use Rattle.std.specs.Str.{bytes_eq}
use Rattle.std.proofs.lemmas.List.{ext_get_or, get_or-take, get_or-drop, length-take, length-drop, take_all}
use Rattle.std.proofs.lemmas.Slice.Eq.{bytes_eq-Decides}
use borrow.Author.Tests.{ltb-true, ltb-false}
use Rattle.kept.specs.Differs.{DiffersAt, differs_elsewhere}
use Rattle.kept.proofs.Differing.{if_differs, then_differs}

module _ (c : ℕ) (s s' : List ℕ) where
  -- Inputs that differ at c at most are the same up to c,
  same_before : DiffersAt c s s' → take c s ≡ take c s'
  same_before d =
      let z = d.size in
      ext_get_or 0 (take c s) (take c s') (length-take c s ∙ ap (min c) (sym z) ∙ sym (length-take c s'))
      (λ p l. let m : p < c = omega (arith, length-take c s) in get_or-take c s p 0 m ∙ sym (d.same p (λ e. omega arith)) ∙ sym (get_or-take c s' p 0 m))

  -- and behind it,
  same_behind : DiffersAt c s s' → drop (c + 1) s ≡ drop (c + 1) s'
  same_behind d =
      let z = d.size in
      ext_get_or 0 (drop (c + 1) s) (drop (c + 1) s') (length-drop (c + 1) s ∙ ap (λ n. n - (c + 1)) (sym z) ∙ sym (length-drop (c + 1) s'))
      (λ p l. get_or-drop (c + 1) s p 0 ∙ sym (d.same (c + 1 + p) (λ e. omega arith)) ∙ sym (get_or-drop (c + 1) s' p 0))

  -- and the other way.
  same_elsewhere : length s ≡ length s' → take c s ≡ take c s' → drop (c + 1) s ≡ drop (c + 1) s' → DiffersAt c s s'
  same_elsewhere z before behind = record { size = sym z; same = λ p n. at_each p n (ltb p c) refl }
    where
      at_each : (p : ℕ) → (p ≡ c → ⊥) → (b : Bool) → ltb p c ≡ b → get_or s' p 0 ≡ get_or s p 0
      at_each p n true e =
          let l = ltb-true p c e in
          sym (get_or-take c s' p 0 l) ∙ ap (λ (t : List ℕ). get_or t p 0) (sym before) ∙ get_or-take c s p 0 l
      at_each p n false e =
          let l = ltb-false p c e in
          let k : c + 1 + (p - (c + 1)) ≡ p = omega (arith, n) in
          ap (λ (q : ℕ). get_or s' q 0) (sym k) ∙ sym (get_or-drop (c + 1) s' (p - (c + 1)) 0) ∙ ap (λ (t : List ℕ). get_or t (p - (c + 1)) 0) (sym behind)
          ∙ get_or-drop (c + 1) s (p - (c + 1)) 0 ∙ ap (λ (q : ℕ). get_or s q 0) k

  -- So where the two parts are the same, nothing differs elsewhere;
  none_elsewhere : length s ≡ length s' → bytes_eq (take c s) (take c s') ≡ true → bytes_eq (drop (c + 1) s) (drop (c + 1) s') ≡ true
      → differs_elsewhere c s s' ≡ false
  none_elsewhere z e f =
      if_differs c s s' (same_elsewhere z ((bytes_eq-Decides (take c s) (take c s')).0 e) ((bytes_eq-Decides (drop (c + 1) s) (drop (c + 1) s')).0 f))

  -- and the other way.
  none_found : differs_elsewhere c s s' ≡ false → (bytes_eq (take c s) (take c s') ≡ true) × (bytes_eq (drop (c + 1) s) (drop (c + 1) s') ≡ true)
  none_found e =
      let d = then_differs c s s' e in
      ((bytes_eq-Decides (take c s) (take c s')).1 (same_before d), (bytes_eq-Decides (drop (c + 1) s) (drop (c + 1) s')).1 (same_behind d))

  -- Up to c and from behind it on is everywhere else.
  pub slices_elsewhere : length s ≡ length s' → (not (bytes_eq (take c s) (take c s')) || not (bytes_eq (drop (c + 1) s) (drop (c + 1) s'))) ≡ differs_elsewhere c s s'
  slices_elsewhere z = go (bytes_eq (take c s) (take c s')) (bytes_eq (drop (c + 1) s) (drop (c + 1) s')) (differs_elsewhere c s s') (none_elsewhere z) none_found
    where
      go : (a b d : Bool) → (a ≡ true → b ≡ true → d ≡ false) → (d ≡ false → (a ≡ true) × (b ≡ true)) → (not a || not b) ≡ d
      go true true d f g = sym (f refl refl)
      go true false true f g = refl
      go false false true f g = refl
      go false true true f g = refl
      go true false false f g = absurd (let e = (g refl).1 in cc)
      go false false false f g = absurd (let e = (g refl).1 in cc)
      go false true false f g = absurd (let e = (g refl).0 in cc)

  -- The test up to c,
  pub differs_before : length s ≡ length s' → not (bytes_eq (take c s) (take c s')) ≡ true → differs_elsewhere c s s' ≡ true
  differs_before z e = sym (slices_elsewhere z) ∙ rw e

  -- and where it tells of none, the one from behind it on.
  pub differs_behind : length s ≡ length s' → not (bytes_eq (take c s) (take c s')) ≡ false
      → not (bytes_eq (take (length s - (c + 1)) (drop (c + 1) s)) (take (length s' - (c + 1)) (drop (c + 1) s'))) ≡ differs_elsewhere c s s'
  differs_behind z e =
      rw (take_all (length s - (c + 1)) (drop (c + 1) s) (omega (arith, length-drop (c + 1) s)), take_all (length s' - (c + 1)) (drop (c + 1) s') (omega (arith, length-drop (c + 1) s')))
      (rw e at (slices_elsewhere z))
