-- What holds before each step of the walk: it holds at the start, and the two kinds of step keep it. Assumes nothing.
use mathlib.Core.Bool.{true≢false}
use mathlib.Core.Path.{◌≡◌, refl, sym, ap, ◌∙◌, subst}
use mathlib.Core.Logic.{◌⊎◌, inl, inr, ◌≢◌}
use mathlib.Core.List.{List, [], ◌∷◌}
use Prim.Native.Nat.{ℕ, ◌<◌}
use Rattle.calls.proofs.System.{System, calls, value, node, Means}
use Rattle.calls.proofs.Chain.{Calls, to_first, to_second}
use Rattle.calls.proofs.Reach.{Reach, itself, reach_on}
use Rattle.calls.proofs.Follow.{In}
use Rattle.calls.proofs.Table.{Mark, blank, opened, settled, Put, put_cases}
use Rattle.calls.proofs.Trail.{Grows, grows_put, Fits, fits_grows, Link, link_first, link_second, link_grows, Trail, bottom, start, push, trail_grows, trail_pop, trail_fresh}

module _ {A E : Type 0} (σ : System ℕ A E) (N : ℕ) where
  open σ use {kind, first, second, join}

  -- Whatever T has settled among its first N cells is right, and what it calls is settled too.
  abbrev pub Sound : (ℕ → Mark A) → Type 0
  Sound T = (x : ℕ) (a : A) → x < N → T x ≡ settled a → Fits σ T x a

  -- A mark that fits keeps a table sound.
  pub sound_put : {T U : ℕ → Mark A} {x : ℕ} {m : Mark A} → Sound T → Grows T U → Put T x m U → ((a : A) → m ≡ settled a → Fits σ T x a) → Sound U
  sound_put {T = T} {x = x} {m = m} s g p f z a l h = elim (put_cases p z) [
    | inl c ↦ fits_grows σ g (subst (λ (u : ℕ). Fits σ T u a) (sym c.0) (f a (sym c.1 ∙ h)))
    | inr c ↦ fits_grows σ g (s z a l (sym c.1 ∙ h))
  ]

  -- A table to begin with: sound, and no pair of it open.
  pub record Kept (T : ℕ → Mark A) : Type 0 where
    pub sound : Sound T
    pub no_open : (x : ℕ) → x < N → T x ≢ opened

  -- A blank table is one.
  pub blank_kept : Kept (λ x. blank)
  blank_kept = record { sound = λ x a l h. absurd (true≢false (cc)); no_open = λ x l h. true≢false (cc) }

  -- What a pair with a cell calls has a cell.
  pub record Bounded : Type 0 where
    pub first_in_law : (x : ℕ) → x < N → kind x ≡ calls → first x < N
    pub second_in_law : (x : ℕ) (a : A) → x < N → kind x ≡ calls → Means σ (first x) (value a) → second x a < N

  -- The pair x was settled in O, or is reached from root.
  abbrev pub KeptOrReached : (ℕ → Mark A) → ℕ → ℕ → Type 0
  KeptOrReached O root x = ((a : A) × (O x ≡ settled a)) ⊎ Reach σ root x

  -- Before each step of a question about root over the table O, with the table T and the trail s.
  pub record Inv (O : ℕ → Mark A) (root : ℕ) (T : ℕ → Mark A) (s : List ℕ) : Type 0 where
    pub sound : Sound T
    pub trail : Trail σ T root s
    pub open_on : (x : ℕ) → x < N → T x ≡ opened → In x s
    pub on_open : (x : ℕ) → In x s → T x ≡ opened
    pub below : (x : ℕ) → In x s → x < N
    pub keeps : Grows O T
    pub only : (x : ℕ) → x < N → T x ≢ blank → KeptOrReached O root x
    pub root_full : T root ≢ blank

  -- What a link says of derivations, where the caller is below N.
  pub link_calls : {T : ℕ → Mark A} {x y : ℕ} → Bounded → Sound T → x < N → Link σ T x y → (y < N) × Calls σ x y
  link_calls b s l (link_first q r) = (subst (λ (u : ℕ). u < N) (sym r) (b.first_in_law _ l q), to_first q r)
  link_calls {x = x} b s l (link_second {a = a} q t r) =
      let d = (s (first x) a (b.first_in_law x l q) t).right in
      (subst (λ (u : ℕ). u < N) (sym r) (b.second_in_law x a l q d), to_second q d.2 r)

  module _ {O T : ℕ → Mark A} {root x : ℕ} {s : List ℕ} (bounded : Bounded) (inv : Inv O root T (x ∷ s)) where
    top_open : T x ≡ opened
    top_open = inv.on_open x (inl refl)

    top_in : x < N
    top_in = inv.below x (inl refl)

    -- The top is reached.
    pub top_reach : Reach σ root x
    top_reach = elim (inv.only x top_in (λ b. let o = top_open in true≢false (cc))) [
      | inl k ↦ let h = inv.keeps x k.0 k.1 in let o = top_open in absurd (true≢false (cc))
      | inr r ↦ r
    ]

    -- A blank pair that the top calls is opened, and becomes the top.
    pub open_next : {U : ℕ → Mark A} {y : ℕ} → Link σ T x y → T y ≡ blank → Put T y opened U → Inv O root U (y ∷ x ∷ s)
    open_next {U} {y} l e p =
        let g : Grows T U = grows_put (λ a h. true≢false (cc)) p in
        let c = link_calls bounded inv.sound top_in l in
        record {
          sound = sound_put inv.sound g p (λ a h. absurd (true≢false (cc)));
          trail = push (trail_grows σ g inv.trail) (λ i. let j = inv.on_open y i in true≢false (cc)) (link_grows σ g l);
          open_on = λ z k h. elim (put_cases p z) [
            | inl d ↦ inl d.0
            | inr d ↦ inr (inv.open_on z k (sym d.1 ∙ h))
          ];
          on_open = λ z i. elim i [
            | inl r ↦ ap U r ∙ p.there
            | inr j ↦ let o = inv.on_open z j in p.others z (λ r. true≢false (cc)) ∙ o
          ];
          below = λ z i. elim i [
            | inl r ↦ subst (λ (u : ℕ). u < N) (sym r) c.0
            | inr j ↦ inv.below z j
          ];
          keeps = λ z a h. g z a (inv.keeps z a h);
          only = λ z k h. elim (put_cases p z) [
            | inl d ↦ inr (subst (Reach σ root) (sym d.0) (reach_on σ top_reach c.1))
            | inr d ↦ inv.only z k (λ b. h (d.1 ∙ b))
          ];
          root_full = λ b. elim (put_cases p root) [
            | inl d ↦ let h = d.1 in true≢false (cc)
            | inr d ↦ inv.root_full (sym d.1 ∙ b)
          ];
        }

    -- The top is settled, and taken off.
    pub settle_top : {U : ℕ → Mark A} {a : A} → Fits σ T x a → Put T x (settled a) U → Inv O root U s
    settle_top {U} {a} f p =
        let o = top_open in
        let g : Grows T U = grows_put (λ a h. true≢false (cc)) p in
        record {
          sound = sound_put inv.sound g p (λ b h. let e : a ≡ b = cc in subst (Fits σ T x) e f);
          trail = trail_grows σ g (trail_pop σ inv.trail);
          open_on = λ z k h. elim (put_cases p z) [
            | inl d ↦ let h' = d.1 in absurd (true≢false (cc))
            | inr d ↦ off_top z d.0 (inv.open_on z k (sym d.1 ∙ h))
          ];
          on_open = λ z i. p.others z (λ r. trail_fresh σ inv.trail (subst (λ (u : ℕ). In u s) r i)) ∙ inv.on_open z (inr i);
          below = λ z i. inv.below z (inr i);
          keeps = λ z b h. g z b (inv.keeps z b h);
          only = λ z k h. elim (put_cases p z) [
            | inl d ↦ inr (subst (Reach σ root) (sym d.0) top_reach)
            | inr d ↦ inv.only z k (λ b. h (d.1 ∙ b))
          ];
          root_full = λ b. elim (put_cases p root) [
            | inl d ↦ let h = d.1 in true≢false (cc)
            | inr d ↦ inv.root_full (sym d.1 ∙ b)
          ];
        }
      where
        off_top : (z : ℕ) → z ≢ x → In z (x ∷ s) → In z s
        off_top z n (inl r) = absurd (n r)
        off_top z n (inr i) = i

    -- Where both pairs that the top calls are settled, the joined value fits.
    pub both_fits : {a c : A} → kind x ≡ calls → T (first x) ≡ settled a → T (second x a) ≡ settled c → Fits σ T x (join x a c)
    both_fits {a} {c} q t u =
        let d = (inv.sound (first x) a (bounded.first_in_law x top_in q) t).right in
        let e = (inv.sound (second x a) c (bounded.second_in_law x a top_in q d) u).right in
        record { right = (_, _, node q d.2 e.2); closed = λ q'. (a, c, t, u) }

  -- ---- The start.

  module _ {O : ℕ → Mark A} (root : ℕ) (kept : Kept O) where
    was_settled : (x : ℕ) (m : Mark A) → O x ≡ m → x < N → O x ≢ blank → (a : A) × (O x ≡ settled a)
    was_settled x blank e l n = absurd (n e)
    was_settled x opened e l n = absurd (kept.no_open x l e)
    was_settled x (settled a) e l n = (a, e)

    -- The invariant at the start, the asked pair opened.
    pub inv_start : {T : ℕ → Mark A} → root < N → O root ≡ blank → Put O root opened T → Inv O root T (root ∷ [])
    inv_start {T} root_in e p =
        let g : Grows O T = grows_put (λ a h. true≢false (cc)) p in
        record {
          sound = sound_put kept.sound g p (λ a h. absurd (true≢false (cc)));
          trail = start;
          open_on = λ z l h. elim (put_cases p z) [
            | inl d ↦ inl d.0
            | inr d ↦ absurd (kept.no_open z l (sym d.1 ∙ h))
          ];
          on_open = λ z i. elim i [
            | inl r ↦ ap T r ∙ p.there
            | inr j ↦ absurd j
          ];
          below = λ z i. elim i [
            | inl r ↦ subst (λ (u : ℕ). u < N) (sym r) root_in
            | inr j ↦ absurd j
          ];
          keeps = g;
          only = λ z l h. elim (put_cases p z) [
            | inl d ↦ inr (subst (Reach σ root) (sym d.0) itself)
            | inr d ↦ inl (was_settled z (O z) refl l (λ b. h (d.1 ∙ b)))
          ];
          root_full = λ b. let h = p.there in true≢false (cc);
        }

    -- The asked pair was settled before: nothing is open.
    pub inv_settled : {a : A} → O root ≡ settled a → Inv O root O []
    inv_settled e = record {
      sound = kept.sound;
      trail = bottom;
      open_on = kept.no_open;
      on_open = λ z i. absurd i;
      below = λ z i. absurd i;
      keeps = λ z a h. h;
      only = λ z l h. inl (was_settled z (O z) refl l h);
      root_full = λ b. true≢false (cc);
    }
