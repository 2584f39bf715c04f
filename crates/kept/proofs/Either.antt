-- Document 02, order 8: two questions over one table, one after the other, in either order. Assumes nothing.
use mathlib.Core.List.{List}
use mathlib.Core.Logic.{◌⊎◌, inl, inr, ◌≢◌, ◌↔◌}
use mathlib.Core.Path.{◌≡◌, sym, ap, ap₂, ◌∙◌, subst}
use Prim.Native.Nat.{ℕ, zero, suc, ◌+◌, ◌<◌}
use native.Mathlib.Decide.{ℕ_discrete}
use native.Mathlib.Omega.{arith}
use lib.ListN.{length}
use Rattle.calls.proofs.Count.{Count, none, miss, count_map}
use Rattle.grammar.specs.Rule.{Rule}
use Rattle.schema.specs.Closed.{Closed}
use Rattle.schema.specs.Derivation.{Pair, ◌at◌, Outcome}
use Rattle.schema.specs.Examined.{Reaches}
use Rattle.schema.specs.Reached.{Reached, Number}
use Rattle.schema.specs.Table.{Within, cells, code, held, contents, Table}
use Rattle.schema.proofs.Answer.{reached_cell}
use Rattle.schema.proofs.Cell.{pair_of, PairWithin, pair_within}
use Rattle.schema.proofs.Counted.{number_cells}
use Rattle.schema.proofs.Examined.{reaches_one}
use Rattle.schema.proofs.Laws.{has_one, number_one}
use Rattle.schema.proofs.SameCells.{same_table}
use Rattle.kept.specs.Kept.{Blank}
use Rattle.kept.specs.New.{New}
use Rattle.kept.proofs.Filled.{filled, new_more}
use Rattle.kept.proofs.RightCells.{RightCells, ask_right}

-- What none has is counted 0 times.
count_none : {P : ℕ → Type 0} (n : ℕ) → ((i : ℕ) → i < n → ¬ P i) → Count P n 0
count_none zero fails = none
count_none (suc n) fails = miss (fails n (omega arith)) (count_none n (λ i l. fails i (omega arith)))

exchanged : {P Q R : Type 0} → P ⊎ (Q ⊎ R) → P ⊎ (R ⊎ Q)
exchanged (inl p) = inl p
exchanged (inr (inl q)) = inr (inr q)
exchanged (inr (inr r)) = inr (inl r)

module _ (rule : ℕ → Rule) (v : ℕ) (s : List ℕ) where
  -- Right cells that are filled alike are alike.
  cells_alike : {H K : Pair → ℕ × ℕ} → RightCells rule v s H → RightCells rule v s K → (A p : ℕ) → Within v (length s) A p
      → (((H (A at p)).0 ≢ 0) ↔ ((K (A at p)).0 ≢ 0)) → H (A at p) ≡ K (A at p)
  cells_alike {H} {K} h k A p w f = elim (ℕ_discrete (H (A at p)).0 0) [
    | yes e ↦ elim (ℕ_discrete (K (A at p)).0 0) [
      | yes g ↦ ap₂ {C = ℕ × ℕ} (λ (a b : ℕ). (a, b)) (e ∙ sym g) (h.blank A p w e ∙ sym (k.blank A p w g))
      | no d ↦ absurd (f.1 d e)
    ]
    | no d ↦
        let a = h.right A p w d in
        let b = k.right A p w (f.0 d) in
        let o = has_one rule s (A at p) a.0 b.0 a.1 b.1 in
        let m = subst (λ (q : Outcome). Reaches rule s (A at p) q (H (A at p)).1) o a.3 in
        ap₂ {C = ℕ × ℕ} (λ (a b : ℕ). (a, b)) (a.2 ∙ ap code o ∙ sym b.2) (reaches_one rule s (A at p) b.0 (H (A at p)).1 (K (A at p)).1 m b.3)
  ]

  -- After two questions: what was filled, and what either reaches.
  module _ {x y : Pair} {O T₁ T₂ : List ℕ} (t₁ : Table rule s v x (contents (length s) O) O T₁) (t₂ : Table rule s v y (contents (length s) T₁) T₁ T₂) where
    filled_twice : (A p : ℕ) → Within v (length s) A p
        → (held (length s) T₂ (A at p) ≢ 0) ↔ ((held (length s) O (A at p) ≢ 0) ⊎ (Reached rule s x (A at p) ⊎ Reached rule s y (A at p)))
    filled_twice A p w = (λ n. there ((filled rule s v t₂ A p w).0 n), back)
      where
        there : (held (length s) T₁ (A at p) ≢ 0) ⊎ Reached rule s y (A at p)
            → (held (length s) O (A at p) ≢ 0) ⊎ (Reached rule s x (A at p) ⊎ Reached rule s y (A at p))
        there (inl n) = elim ((filled rule s v t₁ A p w).0 n) [
          | inl m ↦ inl m
          | inr r ↦ inr (inl r)
        ]
        there (inr r) = inr (inr r)

        back : (held (length s) O (A at p) ≢ 0) ⊎ (Reached rule s x (A at p) ⊎ Reached rule s y (A at p)) → held (length s) T₂ (A at p) ≢ 0
        back (inl n) = (filled rule s v t₂ A p w).1 (inl ((filled rule s v t₁ A p w).1 (inl n)))
        back (inr (inl r)) = (filled rule s v t₂ A p w).1 (inl ((filled rule s v t₁ A p w).1 (inr r)))
        back (inr (inr r)) = (filled rule s v t₂ A p w).1 (inr r)

  module _ (closed : Closed v rule) where
    -- "Asked in either order from the same kept table .. all cells come out alike", both numbers, the later ones too.
    pub either_order : {x y : Pair} {O T₁ T₂ U₁ U₂ : List ℕ} → RightCells rule v s (contents (length s) O)
        → Table rule s v x (contents (length s) O) O T₁ → Table rule s v y (contents (length s) T₁) T₁ T₂
        → Table rule s v y (contents (length s) O) O U₁ → Table rule s v x (contents (length s) U₁) U₁ U₂ → T₂ ≡ U₂
    either_order {T₂ = T₂} {U₂ = U₂} r t₁ t₂ u₁ u₂ =
        same_table v (length s) T₂ U₂
        (λ A p w.
        let f = filled_twice t₁ t₂ A p w in
        let g = filled_twice u₁ u₂ A p w in
        cells_alike (ask_right rule v closed s (ask_right rule v closed s r t₁) t₂) (ask_right rule v closed s (ask_right rule v closed s r u₁) u₂) A p w
        (λ n. g.1 (exchanged (f.0 n)), λ n. f.1 (exchanged (g.0 n))))
        (t₂.later ∙ t₁.later ∙ sym (u₂.later ∙ u₁.later)) (t₂.size ∙ t₁.size ∙ sym (u₂.size ∙ u₁.size))

    -- "From a blank table the two counts of newly decided cells add up to the number of pairs reached from either."
    module _ {x y : Pair} {O T₁ T₂ : List ℕ} (wx : PairWithin v (length s) x) (wy : PairWithin v (length s) y)
        (empty : Blank v (length s) O)
        (t₁ : Table rule s v x (contents (length s) O) O T₁) (t₂ : Table rule s v y (contents (length s) T₁) T₁ T₂) where
      either_iff : (i : ℕ) → i < cells v (length s)
          → (held (length s) T₂ (pair_of (length s) i) ≢ 0) ↔ (Reached rule s x (pair_of (length s) i) ⊎ Reached rule s y (pair_of (length s) i))
      either_iff i l =
          let w = pair_within v (length s) i l in
          let f = filled_twice t₁ t₂ _ _ w in (
            λ n. elim (f.0 n) [
              | inl m ↦ absurd (m (ap (λ (k : ℕ × ℕ). k.0) (empty _ _ w)))
              | inr r ↦ r
            ],
            λ r. f.1 (inr r),
          )

      either_in : (z : Pair) → Reached rule s x z ⊎ Reached rule s y z → PairWithin v (length s) z
      either_in z (inl r) = (reached_cell rule s v closed x wx r).0
      either_in z (inr r) = (reached_cell rule s v closed y wy r).0

      pub counts_add : {c d : ℕ} → Number (New rule s x (contents (length s) O)) c → Number (New rule s y (contents (length s) T₁)) d
          → Number (λ z. Reached rule s x z ⊎ Reached rule s y z) (c + d)
      counts_add {c} {d} m k =
          let first = new_more rule s v t₁ closed wx (count_none (cells v (length s)) (λ i l m. m (ap (λ (k : ℕ × ℕ). k.0) (empty _ _ (pair_within v (length s) i l))))) in
          let second = new_more rule s v t₂ closed wy first.2 in
          let both = number_cells v (length s) (λ z. Reached rule s x z ⊎ Reached rule s y z) either_in (count_map either_iff second.2) in
          let e = number_one first.1 m in
          let f = number_one second.1 k in
          let sum : 0 + first.0 + second.0 ≡ c + d = omega arith in
          subst (Number (λ z. Reached rule s x z ⊎ Reached rule s y z)) sum both
