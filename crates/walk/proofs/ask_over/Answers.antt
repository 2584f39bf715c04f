use mathlib.Core.Path.{◌∙◌}
use mathlib.Core.Logic.{inl}
use Prim.Native.Nat.{◌-◌}
use native.Mathlib.Omega.{arith}
use lib.ListN.{length}
use Rattle.schema.specs.Derivation.{◌at◌, success, failure}
use Rattle.schema.proofs.Cell.{cell_below}
use Rattle.step.proofs.Looking.{held_is, failure_settled, success_settled}
use Rattle.walk.proofs.Overs.{over_settled}
use Rattle.walk.proofs.ask_over.Goals as goal

pub returns-then-asked : goal.returns-then-asked
returns-then-asked c =
    let a = c.args in
    let n = length a.system.input.now in
    let e = held_is n a.table.now (a.variable at a.position) _ _ c.load-asked.ensures.0 c.cell_number.ensures in
    over_settled c.requires failure (failure_settled n _ (e ∙ c.if-asked.true))

pub returns : goal.returns
returns c =
    let a = c.args in
    let n = length a.system.input.now in
    let r = c.requires in
    let e = held_is n a.table.now (a.variable at a.position) _ _ c.load-asked.ensures.0 c.cell_number.ensures in
    let f = r.in_range _ (cell_below a.system.variables n (a.variable at a.position) r.within) in
    let s = r.short in
    over_settled r (success (c.load-asked.result.0 - 5))
    (rw e (success_settled n _ (inl (rw (← e) f)) c.if-asked-2.false (λ z. omega arith)))
