use native.Mathlib.Omega.{arith}
use Rattle.step.proofs.Calls.{first_has, settles_top}
use Rattle.step.proofs.settle_top.Goals as goal

pub load-first-requires : goal.load-first-requires
load-first-requires c =
    first_has c.args.rules.now c.requires c.first_of.ensures c.cell_number.ensures

pub returns-then-x-eq0 : goal.returns-then-x-eq0
returns-then-x-eq0 c =
    let stores = settles_top c.args.rules.now c.requires c.first_of.ensures c.cell_number.ensures c.args.second c.reaching-cell.result c.load-first.ensures.1 c.reaching-cell.ensures c.cell_number-2.ensures c.store.ensures in
    record { stores = stores; returns = (c.reaching-cell.ensures.0, c.if-x-eq0.true) }

pub returns : goal.returns
returns c =
    let stores = settles_top c.args.rules.now c.requires c.first_of.ensures c.cell_number.ensures c.args.second c.reaching-cell.result c.load-first.ensures.1 c.reaching-cell.ensures c.cell_number-2.ensures c.store.ensures in
    let e = c.caller_of.ensures in
    let d = e.4 in
    record { stores = stores; returns = record { depth_is = omega (arith, c.if-x-eq0.false); variable_is = rw d e.0; position_is = rw d e.1; second_is = rw d e.2; called_is = e.3 } }
