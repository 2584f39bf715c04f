-- What follows from the end of a question: which cells hold what, how many are new, and that there is one such end. Assumes nothing.
use mathlib.Core.Bool.{true≢false}
use mathlib.Core.Path.{◌≡◌, refl, sym, ap, ◌∙◌, subst}
use mathlib.Core.Logic.{◌⊎◌, inl, inr, ◌≢◌, ◌↔◌}
use Prim.Native.Nat.{ℕ, ◌<◌}
use Rattle.calls.proofs.System.{System, Answer, value, halts, loops, Means}
use Rattle.calls.proofs.Determinism.{done_one, halt_not_done, means_one}
use Rattle.calls.proofs.Reach.{Reach, itself}
use Rattle.calls.proofs.Follow.{Named, follow_one}
use Rattle.calls.proofs.Count.{Count, count_map}
use Rattle.calls.proofs.Table.{Mark, blank, opened, settled, count_fresh, count_fresh_counts}
use Rattle.calls.proofs.Trail.{fits_grows}
use Rattle.calls.proofs.Invariant.{Sound, Kept, KeptOrReached}
use Rattle.calls.proofs.Ends.{End, Stays}

module _ {A E : Type 0} (σ : System ℕ A E) where
  -- An open pair has no value at the end;
  pub stays_not_done : {x : ℕ} {a : A} (o : Answer A E) → Stays σ o x → Means σ x (value a) → ⊥
  stays_not_done (value b) s m = s
  stays_not_done (halts e) s m = halt_not_done σ refl s m.2
  stays_not_done loops s m = s.not_done _ _ _ m.2

  -- it means the answer.
  pub stays_means : (x : ℕ) (o : Answer A E) → Stays σ o x → Means σ x o
  stays_means x (value b) s = absurd s
  stays_means x (halts e) s = s
  stays_means x loops s = s

  -- What the mark m of a cell says of its pair, where the answer is o.
  abbrev pub Says : Answer A E → Mark A → ℕ → Type 0
  Says o blank x = Unit {0}
  Says o opened x = Means σ x o
  Says o (settled a) x = Means σ x (value a)

  module _ (N : ℕ) {O T : ℕ → Mark A} {root z : ℕ} {o : Answer A E} (end : End σ N O root T o z) where
    -- The cells that are not blank are those that were settled and those of the pairs reached.
    pub full_iff : (x : ℕ) → x < N → (T x ≢ blank) ↔ KeptOrReached σ N O root x
    full_iff x l = (
      end.only x l,
      λ h. elim h [
        | inl k ↦ λ b. let t = end.keeps x k.0 k.1 in true≢false (cc)
        | inr r ↦ (end.found x r).1
      ],
    )

    -- Each holds its pair's outcome.
    pub cell_says : (x : ℕ) → x < N → Says o (T x) x
    cell_says x l = go (T x) refl
      where
        go : (m : Mark A) → T x ≡ m → Says o m x
        go blank e = tt
        go opened e = stays_means x o (end.opens x l e)
        go (settled a) e = (end.sound x a l e).right

    -- A cell is settled with a exactly if it was, or is reached and derives a.
    pub settled_iff : (x : ℕ) (a : A) → x < N → (T x ≡ settled a) ↔ ((O x ≡ settled a) ⊎ (Reach σ root x × Means σ x (value a)))
    settled_iff x a l = (there, back)
      where
        there : T x ≡ settled a → (O x ≡ settled a) ⊎ (Reach σ root x × Means σ x (value a))
        there h = elim (end.only x l (λ b. true≢false (cc))) [
          | inl k ↦ let t = end.keeps x k.0 k.1 in let e : k.0 ≡ a = cc in inl (subst (λ (b : A). O x ≡ settled b) e k.1)
          | inr r ↦ inr (r, (end.sound x a l h).right)
        ]

        derived : (m : Mark A) → T x ≡ m → T x ≢ blank → Means σ x (value a) → T x ≡ settled a
        derived blank e n d = absurd (n e)
        derived opened e n d = absurd (stays_not_done o (end.opens x l e) d)
        derived (settled b) e n d = e ∙ ap settled (done_one σ (end.sound x b l e).right.2 d.2).0

        back : (O x ≡ settled a) ⊎ (Reach σ root x × Means σ x (value a)) → T x ≡ settled a
        back (inl k) = end.keeps x a k
        back (inr r) = derived (T x) refl (end.found x r.0).1 r.1

    -- After a value the asked pair's cell holds it.
    pub root_settled : {a : A} → root < N → o ≡ value a → T root ≡ settled a
    root_settled {a} l e = (settled_iff root a l).1 (inr (itself, subst (Means σ root) e end.means))

    -- The new cells are those of the pairs reached that were blank, and are counted over the table.
    pub fresh_count : Count (λ x. (O x ≡ blank) × Reach σ root x) N (count_fresh O T N)
    fresh_count = count_map (λ x l. (λ h. (h.0, newly x h.0 (end.only x l h.1)), λ h. (h.0, (end.found x h.1).1))) (count_fresh_counts O T N)
      where
        newly : (x : ℕ) → O x ≡ blank → KeptOrReached σ N O root x → Reach σ root x
        newly x b (inl k) = let h = k.1 in absurd (true≢false (cc))
        newly x b (inr r) = r

    -- Any table that has settled what T has is sound: T itself, and T with its open cells blanked.
    pub sound_again : {U : ℕ → Mark A} → ((x : ℕ) (a : A) → (U x ≡ settled a) ↔ (T x ≡ settled a)) → Sound σ N U
    sound_again h x a l e = fits_grows σ (λ z b. (h z b).1) (end.sound x a l ((h x a).0 e))

    -- After a value the table is one to begin with.
    pub kept_again : {a : A} → o ≡ value a → Kept σ N T
    kept_again {a} e = record { sound = end.sound; no_open = λ x l h. subst (λ (p : Answer A E). Stays σ p x) e (end.opens x l h) }

  -- ---- One end: whoever asks about root over O hears the same, and leaves the same table.

  module _ (N : ℕ) {O T U : ℕ → Mark A} {root z w : ℕ} {o p : Answer A E} (end : End σ N O root T o z) (end' : End σ N O root U p w) where
    -- The answers are the same,
    pub answer_one : o ≡ p
    answer_one = means_one σ root o p end.means end'.means

    -- and so are the tables.
    pub table_one : (x : ℕ) → x < N → T x ≡ U x
    table_one x l = go (T x) (U x) refl refl
      where
        go : (m n : Mark A) → T x ≡ m → U x ≡ n → T x ≡ U x
        go blank blank e f = e ∙ sym f
        go blank opened e f = absurd ((full_iff N end x l).1 ((full_iff N end' x l).0 (λ b. true≢false (cc))) e)
        go blank (settled b) e f = absurd ((full_iff N end x l).1 ((full_iff N end' x l).0 (λ b. true≢false (cc))) e)
        go opened blank e f = absurd ((full_iff N end' x l).1 ((full_iff N end x l).0 (λ b. true≢false (cc))) f)
        go opened opened e f = e ∙ sym f
        go opened (settled b) e f = absurd (stays_not_done o (end.opens x l e) (end'.sound x b l f).right)
        go (settled a) blank e f = absurd ((full_iff N end' x l).1 ((full_iff N end x l).0 (λ b. true≢false (cc))) f)
        go (settled a) opened e f = absurd (stays_not_done p (end'.opens x l f) (end.sound x a l e).right)
        go (settled a) (settled b) e f = e ∙ ap settled (done_one σ (end.sound x a l e).right.2 (end'.sound x b l f).right.2).0 ∙ sym f

  -- The named pair depends on the question alone, not on the table.
  pub name_one : (root z w : ℕ) (o : Answer A E) → Stays σ o root → Named σ o root z → Named σ o root w → z ≡ w
  name_one root z w (value a) s f g = absurd s
  name_one root z w (halts e) s f g = (follow_one σ f g).1
  name_one root z w loops s f g = (follow_one σ f g).1
