-- What is asked of the table holds all along. Assumes nothing.
use mathlib.Core.Path.{◌≡◌, ◌∙◌}
use mathlib.Core.List.{List}
use Prim.Native.Nat.{ℕ, ◌*◌, ◌≤◌}
use native.Mathlib.Omega.{arith}
use lib.ListN.{length}
use Rattle.grammar.specs.Rule.{Rule}
use Rattle.schema.proofs.Cells.{stored_length}
use Rattle.schema.specs.Derivation.{◌at◌}
use Rattle.schema.specs.Table.{cell, cells}
use Rattle.step.specs.Codes.{Walkable}
use Rattle.walk.specs.Walk.{before, WalkReady}
use Rattle.walk.proofs.Through.{Through}

-- What is asked of the table and the work slice holds all along.
module _ {rule : ℕ → Rule} {s : List ℕ} {v A p : ℕ} {T₀ W₀ : List ℕ} (r : WalkReady rule s v A p T₀ W₀) where
  pub room_before : 2 * cells v (length s) ≤ length (before (length s) (A at p) T₀)
  room_before = let m = r.walkable.room in simp stored_length m

  -- Of the table,
  module _ {T l : List ℕ} (g : Through rule s v (A at p) (before (length s) (A at p) T₀) T l) where
    pub walkable_still : Walkable rule s v T
    walkable_still =
        let m = room_before in
        let z = g.size in
        let w = r.walkable in
        record { few = w.few; short = w.short; closed = w.closed; room = omega arith; fits = g.fits }

    pub table_length : length T ≡ length T₀
    table_length = g.size ∙ stored_length T₀ (cell (length s) (A at p)) 0 0
