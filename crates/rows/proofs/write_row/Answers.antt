use Rattle.std.proofs.Common.{arith}
use Rattle.rows.proofs.RowWriting.{row_begins, down, inside, row_goes_on, row_ends}
use Rattle.rows.proofs.write_row.Goals as goal

pub loop-x-init : goal.loop-x-init
loop-x-init c = row_begins c.args.width c.args.numbers.now c.args.out.now _ (cc) c.requires

pub overflow_sub-at-in-loop-x : goal.overflow_sub-at-in-loop-x
overflow_sub-at-in-loop-x c = let d = down _ _ c.loop-x.invariant _ _ c.in-Some.ensures.steps in omega arith

pub slice_bounds-write_field-end : goal.slice_bounds-write_field-end
slice_bounds-write_field-end c = inside _ _ c.loop-x.invariant _ _ c.in-Some.ensures.steps

pub loop-x-preserved : goal.loop-x-preserved
loop-x-preserved c = row_goes_on _ _ c.loop-x.invariant _ _ c.in-Some.ensures.steps _ c.write_field.ensures

pub returns : goal.returns
returns c = row_ends _ _ c.loop-x.invariant c.in-None.ensures.steps.0
