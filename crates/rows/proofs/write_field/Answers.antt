use Rattle.std.proofs.Common.{◌/◌, arith}
use Rattle.rows.proofs.Writing.{front_begins, column_written, field_written, none_written}
use Rattle.rows.proofs.write_field.Goals as goal

pub returns-in_default : goal.returns-in_default
returns-in_default c = none_written c.args.out.now c.args.x c.in_default.ensures.cases

pub loop-at-init : goal.loop-at-init
loop-at-init c = front_begins c.in-Some.front.now (c.args.x / 10)

pub loop-at-preserved : goal.loop-at-preserved
loop-at-preserved c =
    let l = c.loop-at in
    rw c.leading_byte.ensures (column_written l.front l.at l.left _ (omega arith) (omega arith) l.invariant)

pub returns : goal.returns
returns c =
    let l = c.loop-at in
    field_written l.front _ l.left c.args.x l.at _ l.invariant (omega arith) c.in-Some.ensures.cases.1
