use Rattle.std.proofs.Common.{◌+◌, ◌-◌, ◌*◌, length}
use Rattle.pieces.specs.Store.{number_held}
use Rattle.pieces.specs.Piece.{rows, choices, Finds, EndsRow}
use Rattle.pieces.proofs.source.Source.+read_choice_read_item_read_row.Given as goal

-- Only brackets nest calls: three members for each depth.
abbrev pub decreases-read_choice : goal.decreases-read_choice
decreases-read_choice l = 3 * (16 - l.depth) + 2

abbrev pub decreases-read_item : goal.decreases-read_item
decreases-read_item l = 3 * (16 - l.depth)

abbrev pub decreases-read_row : goal.decreases-read_row
decreases-read_row l = 3 * (16 - l.depth) + 1

-- The choice so far, which ends where no item begins.
abbrev pub invariant-read_choice-loop-next : goal.invariant-read_choice-loop-next
invariant-read_choice-loop-next l = record {
  here : Finds (choices (number_held l.self.numbers.now) l.self.always) l.self.text.now l.depth l.fn.from l.fn.rules l.here l.rules;
  ends : EndsRow l.self.text.now l.here;
}

abbrev pub decreases-read_choice-loop-next : goal.decreases-read_choice-loop-next
decreases-read_choice-loop-next l = length l.self.text.now - l.here.at

-- The row so far.
abbrev pub invariant-read_row-loop-rules : goal.invariant-read_row-loop-rules
invariant-read_row-loop-rules l = Finds (rows (number_held l.self.numbers.now) l.self.always) l.self.text.now l.depth l.fn.from l.fn.rules l.here l.rules

abbrev pub decreases-read_row-loop-rules : goal.decreases-read_row-loop-rules
decreases-read_row-loop-rules l = length l.self.text.now - l.here.at
