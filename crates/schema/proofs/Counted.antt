-- The number of reached pairs, from the count of cells. Assumes nothing.
use mathlib.Core.HLevel.{¬_prop}
use mathlib.Core.List.Memᴰ
use mathlib.Core.List.Pairwise
use mathlib.Core.List.{map, Memᴰ}
use mathlib.Core.Path.{sym, ap, ◌∙◌, subst}
use Prim.Native.Nat.{ℕ}
use lib.ListN.{length-map}
use Rattle.calls.proofs.Count.{Count}
use Rattle.calls.proofs.Listed.{Listed, listed}
use Rattle.schema.specs.Derivation.{Pair}
use Rattle.schema.specs.Reached.{Number}
use Rattle.schema.specs.Table.{cell, cells}
use Rattle.schema.proofs.Cell.{pair_of, PairWithin, cell_below, pair_cell, cell_pair}

module _ (v n : ℕ) (P : Pair → Type 0) (inside : (y : Pair) → P y → PairWithin v n y) {c : ℕ} where
  listed_number : Listed (λ i. P (pair_of n i)) (cells v n) c → Number P c
  listed_number l = record {
    pairs = map (pair_of n) l.list;
    distinct = Pairwise.map (λ x y. ¬_prop) (pair_of n) (λ i j d e. d (sym (cell_pair n i) ∙ ap (cell n) e ∙ cell_pair n j)) l.distinct;
    exactly = λ y. (
      λ m. let o = Memᴰ.of_map (pair_of n) l.list m in subst P o.2 (l.only o.0 o.1).1,
      λ p.
          let u = inside y p in
          let q = pair_cell v n y u in
          subst (λ (z : Pair). Memᴰ z (map (pair_of n) l.list)) q
          (Memᴰ.map (pair_of n) (l.all (cell n y) (cell_below v n y u) (subst P (sym q) p))),
    );
    counted = length-map l.list (pair_of n) ∙ l.counted;
  }

  -- As many pairs have a property as cells, where all of them have cells.
  pub number_cells : Count (λ i. P (pair_of n i)) (cells v n) c → Number P c
  number_cells k = listed_number (listed k)
