use Rattle.std.proofs.Common.{length}
use Rattle.rows.proofs.RowWriting.{Writing}
use Rattle.rows.proofs.write_row.Given as goal

abbrev pub invariant-loop-x : goal.invariant-loop-x
invariant-loop-x l = Writing l.width l.numbers (length l.initial.out) l.out l.at l.x-iterator.iter.rest.now
