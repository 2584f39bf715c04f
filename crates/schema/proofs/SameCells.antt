-- Two tables that hold the same in their cells, and the same beyond them, are one. Assumes nothing.
use mathlib.Core.Path.{◌≡◌, refl, sym, ap, ◌∙◌, subst}
use mathlib.Core.Bool.{Bool, true, false}
use mathlib.Core.List.{List}
use Prim.Native.Nat.{ℕ, ◌+◌, ◌-◌, ◌*◌, ◌/◌, ◌%◌, ◌<◌}
use native.Mathlib.Decide.{ℕ_discrete}
use native.Mathlib.Omega.{arith}
use lib.Dec.{ltb}
use lib.ListN.{length, get_or, drop}
use lib.Seq.{ext_get_or, get_or-drop}
use borrow.Author.Tests.{ltb-true, ltb-false}
use Rattle.schema.specs.Cells.{cell_at}
use Rattle.schema.specs.Derivation.{◌at◌}
use Rattle.schema.specs.Table.{Within, cells, contents}
use Rattle.schema.proofs.Cell.{cell_pair, pair_within}

-- By the numbers of the first N cells.
module _ (N : ℕ) (T U : List ℕ) (same : (i : ℕ) → i < N → cell_at T i ≡ cell_at U i) where
  -- A number of the table is the first or the second of a cell.
  number_same : (j : ℕ) → j < 2 * N → get_or T j 0 ≡ get_or U j 0
  number_same j l =
      let s = same (j / 2) (omega arith) in
      elim (ℕ_discrete (j % 2) 0) [
        | yes e ↦ let q : 2 * (j / 2) ≡ j = omega arith in subst (λ (k : ℕ). get_or T k 0 ≡ get_or U k 0) q (ap (λ (k : ℕ × ℕ). k.0) s)
        | no d ↦ let q : 2 * (j / 2) + 1 ≡ j = omega arith in subst (λ (k : ℕ). get_or T k 0 ≡ get_or U k 0) q (ap (λ (k : ℕ × ℕ). k.1) s)
      ]

  pub same_cells : drop (2 * N) T ≡ drop (2 * N) U → length T ≡ length U → T ≡ U
  same_cells e z = ext_get_or 0 T U z at_each
    where
      at_each : (i : ℕ) → i < length T → get_or T i 0 ≡ get_or U i 0
      at_each i l = by_test (ltb i (2 * N)) refl
        where
          by_test : (b : Bool) → ltb i (2 * N) ≡ b → get_or T i 0 ≡ get_or U i 0
          by_test true h = number_same i (ltb-true i (2 * N) h)
          by_test false h =
              let k = ltb-false i (2 * N) h in
              let q : 2 * N + (i - 2 * N) ≡ i = omega arith in
              ap (λ (j : ℕ). get_or T j 0) (sym q) ∙ sym (get_or-drop (2 * N) T (i - 2 * N) 0) ∙ ap (λ (D : List ℕ). get_or D (i - 2 * N) 0) e
              ∙ get_or-drop (2 * N) U (i - 2 * N) 0 ∙ ap (λ (j : ℕ). get_or U j 0) q

-- By the pairs of v variables on n bytes.
pub same_table : (v n : ℕ) (T U : List ℕ) → ((A p : ℕ) → Within v n A p → contents n T (A at p) ≡ contents n U (A at p))
    → drop (2 * cells v n) T ≡ drop (2 * cells v n) U → length T ≡ length U → T ≡ U
same_table v n T U same =
    same_cells (cells v n) T U
    (λ i l. sym (ap (λ (k : ℕ). cell_at T k) (cell_pair n i)) ∙ same _ _ (pair_within v n i l) ∙ ap (λ (k : ℕ). cell_at U k) (cell_pair n i))
