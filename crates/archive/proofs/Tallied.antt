-- Counts of cells by their outcome: the same in both layouts, and each cell is counted once, in its own kind. Assumes nothing.
use mathlib.Core.Bool.{Bool, true, false, cond}
use mathlib.Core.List.{List, [], ◌∷◌, map}
use mathlib.Core.Path.{◌≡◌, refl, sym, ap, ap₂, ◌∙◌}
use Prim.Native.Nat.{ℕ, zero, suc, ◌+◌, min}
use native.Mathlib.Decide.{ℕ_discrete}
use native.Mathlib.Omega.{arith}
use lib.Dec.{eqb}
use borrow.Author.Tests.{ne_eqb, le-leb}
use Rattle.calls.proofs.Count.{sum, sum_same}
use Rattle.schema.specs.Cells.{held_at}
use Rattle.schema.specs.Derivation.{◌at◌}
use Rattle.schema.specs.Table.{cells}
use Rattle.archive.specs.Archive.{Moved}
use Rattle.archive.specs.Layout.{Layout, cell_in}
use Rattle.archive.specs.StoredTable.{TallyWhole}
use Rattle.archive.specs.Tally.{outcomes, kinds, tally, total}
use Rattle.archive.proofs.Layouts.{sum_pairs}

-- ---- The same in both layouts.

-- 1 for an outcome of the kind.
abbrev one : (ℕ → Bool) → ℕ → ℕ
one kind o = cond (kind o) 1 0

one_more : (t : Bool) (x : ℕ) → cond t (suc x) x ≡ cond t 1 0 + x
one_more true x = omega arith
one_more false x = omega arith

-- A count is a sum.
outcomes_sum : (kind : ℕ → Bool) (N : ℕ) (T : List ℕ) → outcomes kind N T ≡ sum (λ i. one kind (held_at T i)) N
unfolding outcomes sum
outcomes_sum kind zero T = refl
outcomes_sum kind (suc N) T =
    one_more (kind (held_at T N)) (outcomes kind N T) ∙ ap (λ (k : ℕ). one kind (held_at T N) + k) (outcomes_sum kind N T)

module _ {from to : Layout} {v n : ℕ} {S T T' : List ℕ} (moved : Moved from to v n S T T') where
  outcomes_same : (kind : ℕ → Bool) → outcomes kind (cells v n) T' ≡ outcomes kind (cells v n) S
  outcomes_same kind =
      outcomes_sum kind (cells v n) T' ∙ sum_pairs to v n (λ k. one kind (held_at T' k))
      ∙ sum_same (λ i. sum (λ p. one kind (held_at S (cell_in from v n (i + 1 at p)))) (n + 1)) (λ i. sum (λ p. one kind (held_at T' (cell_in to v n (i + 1 at p)))) (n + 1)) v
      (λ i l. sum_same (λ p. one kind (held_at S (cell_in from v n (i + 1 at p)))) (λ p. one kind (held_at T' (cell_in to v n (i + 1 at p)))) (n + 1)
      (λ p m. ap (λ (k : ℕ × ℕ). one kind k.0) (moved.moves (i + 1) p (record { variable = (omega arith, omega arith); position = omega arith }))))
      ∙ sym (sum_pairs from v n (λ k. one kind (held_at S k))) ∙ sym (outcomes_sum kind (cells v n) S)

  -- The six counts are the same.
  pub tallied : tally (cells v n) T' ≡ tally (cells v n) S
  tallied = each kinds
    where
      each : (ks : List (ℕ → Bool)) → map (λ kind. outcomes kind (cells v n) T') ks ≡ map (λ kind. outcomes kind (cells v n) S) ks
      each [] = refl
      each (kind ∷ ks) = ap₂ ◌∷◌ (outcomes_same kind) (each ks)

-- ---- Each cell is counted once.

-- An outcome is of one kind, its own.
abbrev OwnKind : ℕ → Type 0
OwnKind o = (total (map (λ kind. one kind o) kinds) ≡ 1) × (map (λ kind. kind o) kinds ≡ map (λ k. eqb (min o 5) k) (0 ∷ 1 ∷ 2 ∷ 3 ∷ 4 ∷ 5 ∷ []))

own_kind : (o : ℕ) → OwnKind o
own_kind o = elim (ℕ_discrete o 0) [
  | yes e ↦ rw e (refl, refl)
  | no d0 ↦ elim (ℕ_discrete o 1) [
    | yes e ↦ rw e (refl, refl)
    | no d1 ↦ elim (ℕ_discrete o 2) [
      | yes e ↦ rw e (refl, refl)
      | no d2 ↦ elim (ℕ_discrete o 3) [
        | yes e ↦ rw e (refl, refl)
        | no d3 ↦ elim (ℕ_discrete o 4) [
          | yes e ↦ rw e (refl, refl)
          | no d4 ↦ let m : min o 5 ≡ 5 = omega arith in
              rw (m, ne_eqb o 0 d0, ne_eqb o 1 d1, ne_eqb o 2 d2, ne_eqb o 3 d3, ne_eqb o 4 d4, le-leb 5 o (omega arith)) (refl, refl)
        ]
      ]
    ]
  ]
]

one_cell : (N : ℕ) (T : List ℕ) (ks : List (ℕ → Bool))
    → total (map (λ kind. outcomes kind (suc N) T) ks) ≡ total (map (λ kind. one kind (held_at T N)) ks) + total (map (λ kind. outcomes kind N T) ks)
unfolding outcomes
one_cell N T [] = refl
one_cell N T (kind ∷ ks) =
    let i = one_cell N T ks in
    let o = one_more (kind (held_at T N)) (outcomes kind N T) in
    omega arith

counted_once : (N : ℕ) (T : List ℕ) → total (tally N T) ≡ N
unfolding outcomes
counted_once zero T = refl
counted_once (suc N) T =
    let i = counted_once N T in
    let o = (own_kind (held_at T N)).0 in
    one_cell N T kinds ∙ omega arith

pub tally_whole : (N : ℕ) (T : List ℕ) → TallyWhole N T
tally_whole N T = record { once = counted_once N T; own_kind = λ o. (own_kind o).1 }
