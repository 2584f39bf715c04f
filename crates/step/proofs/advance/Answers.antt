use mathlib.Core.Path.{refl, sym, ◌∙◌, subst}
use mathlib.Core.Logic.{inl, inr}
use Prim.Native.Nat.{ℕ, ◌-◌}
use native.Mathlib.Omega.{arith}
use lib.ListN.{length}
use Rattle.grammar.specs.Words.{rule_in}
use Rattle.schema.specs.Cells.{HasCell}
use Rattle.schema.specs.Derivation.{success, failure}
use Rattle.schema.proofs.Cell.{cell_below}
use Rattle.step.specs.Codes.{Fits, Settled}
use Rattle.step.specs.Step.{called_of, settled_before}
use Rattle.step.proofs.Looking.{held_is, reach_is, failure_settled, success_settled}
use Rattle.step.proofs.Stepped.{step_bounds, resume_ready, steps_resume}
use Rattle.step.proofs.advance.Goals as goal

pub cell_number-requires : goal.cell_number-requires
cell_number-requires c =
    let r = c.requires in
    let b = step_bounds r in
    (b.called_in.variable.0, b.called_high, r.walkable.short, b.called_in.position)

pub load-found-requires : goal.load-found-requires
load-found-requires c =
    let b = step_bounds c.requires in
    subst (HasCell c.args.table.now) (sym c.cell_number.ensures) b.called_cell

pub resume-requires : goal.resume-requires
resume-requires c = resume_ready c.requires _ refl _ (inl c.if-found.true)

pub returns-then-found : goal.returns-then-found
returns-then-found c =
    let a = c.args in
    let r = c.requires in
    let n = length a.system.input.now in
    let e = held_is n a.table.now (called_of a.x) _ _ c.load-found.ensures.0 c.cell_number.ensures in
    let far = reach_is n a.table.now (called_of a.x) _ _ c.load-found.ensures.1 c.cell_number.ensures in
    let m = failure_settled n c.load-found.result.0 c.if-found.true in
    steps_resume (rule_in a.system.rules.now) a.system.input.now a.table.now a.work.now a.x c.load-found.result {r = failure} m (settled_before (failure_settled n _ (e ∙ c.if-found.true))) far r.called (step_bounds r).called_cell c.resume.result c.resume.ensures

pub resume-requires-2 : goal.resume-requires-2
resume-requires-2 c = resume_ready c.requires _ refl _ (inr (omega (arith, c.if-found-2.false)))

pub returns : goal.returns
returns c =
    let a = c.args in
    let r = c.requires in
    let n = length a.system.input.now in
    let b = step_bounds r in
    let k = c.load-found.result.0 in
    let e = held_is n a.table.now (called_of a.x) _ _ c.load-found.ensures.0 c.cell_number.ensures in
    let far = reach_is n a.table.now (called_of a.x) _ _ c.load-found.ensures.1 c.cell_number.ensures in
    let f = subst (Fits n) e (r.walkable.fits _ (cell_below a.system.variables n (called_of a.x) b.called_in)) in
    let m = success_settled n k f (omega (arith, c.if-found-2.false)) c.if-found-3.false in
    steps_resume (rule_in a.system.rules.now) a.system.input.now a.table.now a.work.now a.x c.load-found.result {r = success (k - 5)} m (settled_before (subst (λ (u : ℕ). Settled n u (success (k - 5))) (sym e) m)) far r.called b.called_cell c.resume-2.result c.resume-2.ensures
