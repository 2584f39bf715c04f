-- A right table of codes is a kept table of marks. Assumes nothing.
use mathlib.Core.Path.{◌≡◌, sym, ◌∙◌, subst}
use mathlib.Core.List.{List}
use Prim.Native.Nat.{ℕ, ◌≤◌, ◌<◌}
use lib.ListN.{length}
use Rattle.calls.proofs.Invariant.{Kept}
use Rattle.calls.proofs.System as theory
use Rattle.calls.proofs.System.{value}
use Rattle.calls.proofs.Table.{settled, opened}
use Rattle.calls.proofs.Trail.{Both}
use Rattle.calls.proofs.Trail as trail
use Rattle.grammar.specs.Rule.{Rule}
use Rattle.schema.specs.Cells.{held_at}
use Rattle.schema.proofs.Cells.{view}
use Rattle.schema.specs.Closed.{Closed}
use Rattle.schema.specs.Derivation.{Pair, ◌at◌, Result, act, second}
use Rattle.schema.specs.Table.{cell, cells, held}
use Rattle.schema.proofs.Answer.{gts_cells, means_cell}
use Rattle.schema.proofs.Cell.{pair_of, PairWithin, cell_pair, pair_within}
use Rattle.schema.proofs.System.{kind_calls}
use Rattle.step.specs.Codes.{Settled, Fits}
use Rattle.walk.specs.Walk.{RightTable}
use Rattle.walk.proofs.Marks.{mark, stands}
use Rattle.walk.proofs.Bridge.{cell_kind, cell_first, cell_second, settled_at}

module _ (rule : ℕ → Rule) (s : List ℕ) (v : ℕ) (closed : Closed v rule) (short : length s ≤ 4096) (O : List ℕ)
    (fits : (i : ℕ) → i < cells v (length s) → Fits (length s) (held_at O i)) (right : RightTable rule s v O) where
  both : (x : Pair) (r : Result) → PairWithin v (length s) x → Settled (length s) (held (length s) O x) r
      → (gts_cells rule s).kind (cell (length s) x) ≡ theory.Kind.calls → Both (gts_cells rule s) (view mark O) (cell (length s) x)
  both (A at p) r w m q =
      let c = kind_calls (act rule s (A at p)) (sym (cell_kind rule s v closed (A at p) w) ∙ q) in
      let k = right.whole A c.0 c.1 c.2 p r w m c.3 in (
        k.0,
        k.1,
        settled_at rule s v closed short O (c.0 at p) (cell_first rule s v closed A p c.0 c.1 c.2 w c.3) k.2,
        settled_at rule s v closed short O (second c.1 c.2 p k.0) (cell_second rule s v closed A p c.0 c.1 c.2 w c.3 k.0) k.3,
      )

  fits_pair : (x : Pair) (r : Result) → PairWithin v (length s) x → Settled (length s) (held (length s) O x) r
      → trail.Fits (gts_cells rule s) (view mark O) (cell (length s) x) r
  fits_pair (A at p) r w m =
      record { right = (means_cell rule s v closed (A at p) (value r) w).1 (right.right A p r w m); closed = λ q. both (A at p) r w m q }

  -- No pair is open, and what is settled is right.
  pub right_marks : Kept (gts_cells rule s) (cells v (length s)) (view mark O)
  right_marks = record {
    sound = λ i r l e.
        let c = cell_pair (length s) i in
        let m = stands (length s) (held_at O i) (settled r) (fits i l) e in
        subst (λ (j : ℕ). trail.Fits (gts_cells rule s) (view mark O) j r) c
        (fits_pair (pair_of (length s) i) r (pair_within v (length s) i l) (subst (λ (j : ℕ). Settled (length s) (held_at O j) r) (sym c) m));
    no_open = λ i l e. right.no_open i l (stands (length s) (held_at O i) opened (fits i l) e);
  }
