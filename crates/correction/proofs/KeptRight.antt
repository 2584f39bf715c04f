-- Right cells are what the walk asks of a table. Assumes nothing.
use mathlib.Core.List.{List}
use mathlib.Core.Path.{◌≡◌}
use Prim.Native.Nat.{ℕ, ◌≤◌}
use native.Mathlib.Omega.{arith}
use lib.ListN.{length}
use Rattle.grammar.specs.Rule.{Rule}
use Rattle.schema.specs.Closed.{Closed}
use Rattle.schema.specs.Derivation.{Pair, ◌at◌, Result, second, result, Has}
use Rattle.schema.specs.Table.{code, held, contents}
use Rattle.schema.proofs.Cell.{PairWithin, held_pair, pair_within}
use Rattle.schema.proofs.Ends.{ends_in, derives_ends}
use Rattle.step.specs.Codes.{Settled}
use Rattle.walk.specs.Walk.{RightTable}
use Rattle.kept.proofs.Ranged.{range_most, right_in}
use Rattle.kept.proofs.RightCells.{RightCells, held_has, held_reaches, first_in_law, second_in_law}

module _ (rule : ℕ → Rule) (v : ℕ) (s : List ℕ) (closed : Closed v rule) (short : length s ≤ 4096) (T : List ℕ) where
  settles : (y : Pair) (r : Result) → PairWithin v (length s) y → Has rule s y (result r) → held (length s) T y ≡ code (result r)
      → Settled (length s) (held (length s) T y) r
  settles (A at p) r w h e = record { code_is = e; ends = ends_in p (length s) r (derives_ends rule s w.position h.2) }

  pub right_table : RightCells rule v s (contents (length s) T) → RightTable rule s v T
  right_table h = record {
    no_open = λ i l e.
        let k = range_most (length s) _ _ (right_in rule v s h _ _ (pair_within v (length s) i l)) in
        let z = held_pair (length s) T i in
        omega arith;
    right = λ A p r w m. held_has rule v closed s (A at p) r h w m.code_is;
    whole = λ A B C D p r w m a.
        let k = h.whole A B C D p r w m.code_is a in
        let b = first_in_law rule v closed s w a in
        let f = held_has rule v closed s (B at p) k.0 h b k.1 in
        let i = second_in_law rule v closed s w a k.0 f in
        let g = held_has rule v closed s (second C D p k.0) r h i k.2 in
        (k.0, r, settles (B at p) k.0 b f k.1, settles (second C D p k.0) r i g k.2);
    reaching = λ A p r w m. (held_reaches rule v closed s (A at p) r h w m.code_is).1;
  }
