use Rattle.std.proofs.Common.{◌≡◌, ◌++◌, ◌/◌, length, drop}
use Rattle.columns.specs.Column.{leading}
use Rattle.rows.proofs.write_field.Given as goal

abbrev pub invariant-loop-at : goal.invariant-loop-at
invariant-loop-at l = leading l.at l.left ++ drop l.at l.front ≡ leading (length l.initial.front) (l.x / 10)
