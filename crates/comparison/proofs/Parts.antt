-- Two inputs compared position by position, up to one and from behind it on, which is everywhere else. Assumes nothing.
use mathlib.Core.Bool.{Bool, true, false, not, ◌&&◌, ◌||◌}
use mathlib.Core.List.{List}
use mathlib.Core.Path.{◌≡◌, refl, sym}
use Prim.Native.Nat.{ℕ, ◌+◌, ◌≤◌, ◌<◌}
use native.Mathlib.Omega.{arith}
use lib.Dec.{eqb, ltb}
use lib.ListN.{length}
use borrow.Author.Tests.{ltb-true, ltb-false, le-ltb, eqb-false, eq-eqb, ne_eqb}
use Rattle.grammar.proofs.Fitting.{neither_true}
use Rattle.kept.specs.Differs.{bytes_differ, other_bytes_differ, differs_elsewhere}
use Rattle.kept.specs.Some.{some}
use Rattle.kept.proofs.Some.{some_none, some_each}
use Rattle.comparison.specs.Between.{differs_between}

module _ (c : ℕ) (s s' : List ℕ) where
  module _ (below : c < length s') where
    abbrev before : Bool
    before = differs_between s s' 0 c

    abbrev behind : Bool
    behind = differs_between s s' (c + 1) (length s')

    -- Where neither part finds anything, nothing differs elsewhere;
    none_elsewhere : (before || behind) ≡ false → some (length s') (other_bytes_differ c s s') ≡ false
    none_elsewhere e = some_none (length s') (other_bytes_differ c s s') (λ p l. at_each p l (eqb p c) refl (ltb p c) refl)
      where
        at_each : (p : ℕ) → p < length s' → (b : Bool) → eqb p c ≡ b → (d : Bool) → ltb p c ≡ d → other_bytes_differ c s s' p ≡ false
        at_each p l true z d h = rw z
        at_each p l false z true h =
            let each = some_each c (λ q. not (ltb q 0) && bytes_differ s s' q) (neither_true before behind e).0 p (ltb-true p c h) in
            let same : bytes_differ s s' p ≡ false = rw (le-ltb p 0 (omega arith)) at each in
            rw (z, same)
        at_each p l false z false h =
            let other = eqb-false p c z in
            let right = ltb-false p c h in
            let later : c + 1 ≤ p = omega arith in
            let each = some_each (length s') (λ q. not (ltb q (c + 1)) && bytes_differ s s' q) (neither_true before behind e).1 p l in
            let same : bytes_differ s s' p ≡ false = rw (le-ltb p (c + 1) later) at each in
            rw (z, same)

    -- and the other way.
    none_found : some (length s') (other_bytes_differ c s s') ≡ false → (before || behind) ≡ false
    none_found e =
        rw (some_none c (λ q. not (ltb q 0) && bytes_differ s s' q) up_to, some_none (length s') (λ q. not (ltb q (c + 1)) && bytes_differ s s' q) (λ p l. from_on p l (ltb p (c + 1)) refl))
      where
        same : (p : ℕ) → p < length s' → (p ≡ c → ⊥) → bytes_differ s s' p ≡ false
        same p l n = let each = some_each (length s') (other_bytes_differ c s s') e p l in rw (ne_eqb p c n) at each

        up_to : (p : ℕ) → p < c → (not (ltb p 0) && bytes_differ s s' p) ≡ false
        up_to p l = rw (le-ltb p 0 (omega arith), same p (omega arith) (λ z. omega arith))

        from_on : (p : ℕ) → p < length s' → (b : Bool) → ltb p (c + 1) ≡ b → (not (ltb p (c + 1)) && bytes_differ s s' p) ≡ false
        from_on p l true h = rw h
        from_on p l false h = let right = ltb-false p (c + 1) h in rw (h, same p l (λ z. omega arith))

    -- So up to c and from behind it on is everywhere else.
    pub parts_elsewhere : length s ≡ length s' → (before || behind) ≡ differs_elsewhere c s s'
    unfolding differs_elsewhere
    parts_elsewhere z = rw (eq-eqb (length s) (length s') z) (alike (before || behind) (some (length s') (other_bytes_differ c s s')) none_elsewhere none_found)
      where
        alike : (a b : Bool) → (a ≡ false → b ≡ false) → (b ≡ false → a ≡ false) → a ≡ b
        alike true true f g = refl
        alike true false f g = g refl
        alike false true f g = sym (f refl)
        alike false false f g = refl
