-- Tables that are kept from question to question: a cell holds any answer, a loop or a halt too. To the walk such a cell is blank, and is walked
-- again. Assumes nothing.
use mathlib.Core.Bool.{true≢false}
use mathlib.Core.Path.{◌≡◌, refl, sym, ap, ◌∙◌, subst}
use mathlib.Core.Logic.{◌⊎◌, inl, inr, ◌≢◌, ◌↔◌}
use Prim.Native.Nat.{ℕ, ◌<◌}
use Rattle.calls.proofs.System.{System, calls, Answer, value, halts, loops, Means}
use Rattle.calls.proofs.Determinism.{means_one}
use Rattle.calls.proofs.Reach.{Reach}
use Rattle.calls.proofs.Table.{Mark, blank, opened, settled}
use Rattle.calls.proofs.Trail.{Both}
use Rattle.calls.proofs.Invariant.{Kept, KeptOrReached}
use Rattle.calls.proofs.Ends.{End, Stays}
use Rattle.calls.proofs.Laws.{stays_means}

-- A cell that is kept: empty, or with an answer.
pub data Cell (A E : Type 0) : Type 0 where
  empty : Cell A E
  holds : Answer A E → Cell A E

-- What the walk sees.
abbrev pub seen : {A E : Type 0} → Cell A E → Mark A
seen empty = blank
seen (holds (value a)) = settled a
seen (holds (halts e)) = blank
seen (holds loops) = blank

-- What is left in a cell that held c, where the walk ends with the mark m and the answer o.
abbrev pub left : {A E : Type 0} → Answer A E → Mark A → Cell A E → Cell A E
left o blank c = c
left o opened c = holds o
left o (settled a) c = holds (value a)

seen_value : {A E : Type 0} (c : Cell A E) (a : A) → seen c ≡ settled a → c ≡ holds (value a)
seen_value empty a h = absurd (true≢false (cc))
seen_value (holds (value b)) a h = cc
seen_value (holds (halts e)) a h = absurd (true≢false (cc))
seen_value (holds loops) a h = absurd (true≢false (cc))

module _ {A E : Type 0} (σ : System ℕ A E) (N : ℕ) where
  open σ use {kind}

  -- Each cell below N is empty or holds its pair's answer, and what a pair with a value calls is there too.
  pub record KeptCells (C : ℕ → Cell A E) : Type 0 where
    pub true : (x : ℕ) (o : Answer A E) → x < N → C x ≡ holds o → Means σ x o
    pub closed : (x : ℕ) (a : A) → x < N → C x ≡ holds (value a) → kind x ≡ calls → Both σ (λ y. seen (C y)) x

  -- To the walk, kept cells are a table to begin with.
  pub cells_kept : {C : ℕ → Cell A E} → KeptCells C → Kept σ N (λ x. seen (C x))
  cells_kept {C} k = record {
    sound = λ x a l h. record { right = k.true x (value a) l (seen_value (C x) a h); closed = k.closed x a l (seen_value (C x) a h) };
    no_open = λ x l h. go (C x) h;
  }
    where
      go : (c : Cell A E) → seen c ≡ opened → ⊥
      go empty h = true≢false (cc)
      go (holds (value b)) h = true≢false (cc)
      go (holds (halts e)) h = true≢false (cc)
      go (holds loops) h = true≢false (cc)

  -- Two kept tables with the same cells filled are the same.
  pub cells_same : {C D : ℕ → Cell A E} → KeptCells C → KeptCells D → (x : ℕ) → x < N → ((C x ≢ empty) ↔ (D x ≢ empty)) → C x ≡ D x
  cells_same {C} {D} k j x l f = go (C x) (D x) refl refl
    where
      go : (c d : Cell A E) → C x ≡ c → D x ≡ d → C x ≡ D x
      go empty empty e g = e ∙ sym g
      go empty (holds p) e g = absurd (f.1 (λ h. true≢false (cc)) e)
      go (holds o) empty e g = absurd (f.0 (λ h. true≢false (cc)) g)
      go (holds o) (holds p) e g = e ∙ ap holds (means_one σ x o p (k.true x o l e) (j.true x p l g)) ∙ sym g

  -- ---- After a question over kept cells.

  module _ {C : ℕ → Cell A E} {T : ℕ → Mark A} {root z : ℕ} {o : Answer A E} (kept : KeptCells C) (end : End σ N (λ x. seen (C x)) root T o z) where
    -- The cells that the question leaves.
    abbrev pub after : ℕ → Cell A E
    after x = left o (T x) (C x)

    -- What the walk has settled is there, and only that.
    after_settled : (x : ℕ) (a : A) → T x ≡ settled a → seen (after x) ≡ settled a
    after_settled x a h = ap (λ (m : Mark A). seen (left o m (C x))) h

    after_value : (x : ℕ) (a : A) → x < N → after x ≡ holds (value a) → T x ≡ settled a
    after_value x a l h = go (T x) refl
      where
        go : (m : Mark A) → T x ≡ m → T x ≡ settled a
        go blank e =
            let c : C x ≡ holds (value a) = ap (λ (m : Mark A). left o m (C x)) (sym e) ∙ h in
            end.keeps x a (ap seen c)
        go opened e =
            let c : holds o ≡ holds (value a) = ap (λ (m : Mark A). left o m (C x)) (sym e) ∙ h in
            let d : o ≡ value a = cc in
            absurd (subst (λ (p : Answer A E). Stays σ p x) d (end.opens x l e))
        go (settled b) e =
            let c : holds (value b) ≡ holds (value a) = ap (λ (m : Mark A). left o m (C x)) (sym e) ∙ h in
            let d : b ≡ a = cc in
            e ∙ ap settled d

    -- They are kept again.
    pub after_kept : KeptCells after
    after_kept = record {
      true = λ x p l h. go x p l (T x) refl h;
      closed = λ x a l h q.
          let b = (end.sound x a l (after_value x a l h)).closed q in
          (b.0, b.1, after_settled (σ.first x) b.0 b.2, after_settled (σ.second x b.0) b.1 b.3);
    }
      where
        go : (x : ℕ) (p : Answer A E) → x < N → (m : Mark A) → T x ≡ m → after x ≡ holds p → Means σ x p
        go x p l blank e h = kept.true x p l (ap (λ (m : Mark A). left o m (C x)) (sym e) ∙ h)
        go x p l opened e h =
            let c : holds o ≡ holds p = ap (λ (m : Mark A). left o m (C x)) (sym e) ∙ h in
            let d : o ≡ p = cc in
            subst (Means σ x) d (stays_means σ x o (end.opens x l e))
        go x p l (settled b) e h =
            let c : holds (value b) ≡ holds p = ap (λ (m : Mark A). left o m (C x)) (sym e) ∙ h in
            let d : value b ≡ p = cc in
            subst (Means σ x) d (end.sound x b l e).right

    -- The cells filled afterwards are those filled before and those of the pairs reached.
    pub after_filled : (x : ℕ) → x < N → (after x ≢ empty) ↔ ((C x ≢ empty) ⊎ Reach σ root x)
    after_filled x l = (there (T x) refl, back)
      where
        is : (m : Mark A) → T x ≡ m → after x ≡ left o m (C x)
        is m e = ap (λ (n : Mark A). left o n (C x)) e

        was : KeptOrReached σ N (λ x. seen (C x)) root x → (C x ≢ empty) ⊎ Reach σ root x
        was (inl k) = inl (λ c. let h = k.1 in let g = ap seen c in true≢false (cc))
        was (inr r) = inr r

        there : (m : Mark A) → T x ≡ m → after x ≢ empty → (C x ≢ empty) ⊎ Reach σ root x
        there blank e n = inl (λ c. n (is blank e ∙ c))
        there opened e n = was (end.only x l (λ b. true≢false (cc)))
        there (settled a) e n = was (end.only x l (λ b. true≢false (cc)))

        full : (m : Mark A) → T x ≡ m → T x ≢ blank → after x ≢ empty
        full blank e n h = n e
        full opened e n h = let f = is opened e in true≢false (cc)
        full (settled a) e n h = let f = is (settled a) e in true≢false (cc)

        stays : (m : Mark A) → T x ≡ m → C x ≢ empty → after x ≢ empty
        stays blank e n h = n (sym (is blank e) ∙ h)
        stays opened e n h = let f = is opened e in true≢false (cc)
        stays (settled a) e n h = let f = is (settled a) e in true≢false (cc)

        back : (C x ≢ empty) ⊎ Reach σ root x → after x ≢ empty
        back (inl n) = stays (T x) refl n
        back (inr r) = full (T x) refl (end.found x r).1
