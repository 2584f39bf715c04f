-- The sum is reduced after each number.
use Rattle.std.proofs.Common.{◌<◌}
use Rattle.test_questions.proofs.sum_of.Given as goal

abbrev pub invariant-loop-x : goal.invariant-loop-x
invariant-loop-x g l = l.sum < 9999991
