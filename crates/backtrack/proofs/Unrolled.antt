-- A run by its next step. Assumes nothing.
use mathlib.Core.List.{List}
use mathlib.Core.Path.{◌≡◌}
use Prim.Native.Nat.{ℕ, zero, suc, ◌<◌, ◌≤◌}
use native.Mathlib.Omega.{arith}
use lib.ListN.{length}
use borrow.Author.Tests.{le-leb, lt-leb}
use Rattle.grammar.specs.Rule.{Rule}
use Rattle.schema.specs.Derivation.{Outcome}
use Rattle.schema.specs.Machine.{State, moves_of, stack_of, outcome, move, step, says, spent, no_frame, ran, run}

module _ (rule : ℕ → Rule) (input : List ℕ) where
  -- There is an outcome.
  pub run_outcome : (left room : ℕ) (x : State) (o : Outcome) → step rule input x ≡ outcome o → run rule input left room x ≡ ran (says o) (moves_of x)
  unfolding run
  run_outcome zero room x o e = rw (e, run)
  run_outcome (suc left) room x o e = rw (e, run)

  -- The budget is used.
  pub run_spent : (left room : ℕ) (x y : State) → left ≡ 0 → step rule input x ≡ move y → run rule input left room x ≡ ran spent (moves_of x)
  unfolding run
  run_spent left room x y z e = rw z (rw (e, run))

  -- A push lacks room.
  pub run_full : (left room : ℕ) (x y : State) → 0 < left → step rule input x ≡ move y → room < length (stack_of y)
      → run rule input left room x ≡ ran no_frame (moves_of x)
  unfolding run
  run_full zero room x y z e h = absurd (omega arith)
  run_full (suc left) room x y z e h = rw (e, run) (rw (lt-leb _ _ h))

  -- A move is made.
  pub run_on : (left after room : ℕ) (x y : State) → left ≡ suc after → step rule input x ≡ move y → length (stack_of y) ≤ room
      → run rule input left room x ≡ run rule input after room y
  unfolding run
  run_on left after room x y z e h = rw z (rw (e, run) (rw (le-leb _ _ h)))
