use Prim.Native.Nat.{◌*◌}
use mathlib.Core.Bool.{false}
use Rattle.passes.specs.Passes.{Looked}
use Rattle.passes.proofs.look_row.Given as goal

abbrev pub invariant-loop-block : goal.invariant-loop-block
invariant-loop-block l = Looked l.n l.limit l.table l.start (16 * l.block) false l.first
