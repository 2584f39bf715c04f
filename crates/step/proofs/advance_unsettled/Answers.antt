use mathlib.Core.Path.{refl, sym, ap, ◌∙◌}
use mathlib.Core.Logic.{inl, inr}
use native.Mathlib.Omega.{arith}
use lib.ListN.{length}
use Rattle.grammar.specs.Words.{rule_in}
use Rattle.rules.specs.Act.{told}
use Rattle.schema.specs.Derivation.{success, failure}
use Rattle.schema.specs.Table.{cell}
use Rattle.schema.proofs.Cells.{stored_reach}
use Rattle.schema.proofs.Examined.{success_reach}
use Rattle.step.specs.Codes.{Settled}
use Rattle.step.specs.Step.{called_of, leaf_settled}
use Rattle.step.proofs.Looking.{failure_settled, leaf_end}
use Rattle.step.proofs.Stepped.{step_bounds, resume_ready, steps_resume}
use Rattle.step.proofs.advance_unsettled.Goals as goal

pub act_at-requires : goal.act_at-requires
act_at-requires c =
    let r = c.requires.0 in
    let b = step_bounds r in
    (b.called_in.variable.0, b.called_high, r.walkable.short)

pub success-requires : goal.success-requires
success-requires c =
    let a = c.args in
    let r = c.requires.0 in
    let b = step_bounds r in
    let e = sym c.act_at.ensures ∙ ap told c.in-Success.is in
    let q = leaf_end (rule_in a.system.rules.now) a.system.input.now a.x.called a.x.target _ b.called_in.position e in
    let w = r.walkable.short in
    omega arith

pub settle_leaf-requires : goal.settle_leaf-requires
settle_leaf-requires c =
    let r = c.requires.0 in
    let b = step_bounds r in
    (resume_ready r _ refl _ (inr (omega (arith, c.success.ensures.0))), b.called_in.variable.0, b.called_high, b.called_in.position, b.called_cell)

pub leaf_reach-reach-requires : goal.leaf_reach-reach-requires
leaf_reach-reach-requires c =
    let r = c.requires.0 in
    let b = step_bounds r in
    let w = r.walkable.short in
    let p = b.called_in.position in
    (b.called_in.variable.0, b.called_high, omega arith)

pub settle_leaf-requires-in-Failure : goal.settle_leaf-requires-in-Failure
settle_leaf-requires-in-Failure c =
    let r = c.requires.0 in
    let b = step_bounds r in
    (resume_ready r _ refl _ (inl c.failure.ensures.0), b.called_in.variable.0, b.called_high, b.called_in.position, b.called_cell)

pub open_called-requires : goal.open_called-requires
open_called-requires c =
    let r = c.requires.0 in
    let b = step_bounds r in
    (b.called_in.variable.0, b.called_high, r.walkable.short, b.called_in.position, b.called_cell, b.high, b.position_small, b.deep)

pub open_called-requires-in-Missing : goal.open_called-requires-in-Missing
open_called-requires-in-Missing c =
    let r = c.requires.0 in
    let b = step_bounds r in
    (b.called_in.variable.0, b.called_high, r.walkable.short, b.called_in.position, b.called_cell, b.high, b.position_small, b.deep)

pub returns-in-Success : goal.returns-in-Success
returns-in-Success c =
    let a = c.args in
    let r = c.requires.0 in
    let b = step_bounds r in
    let q = c.in-Success.end in
    let e = sym c.act_at.ensures ∙ ap told c.in-Success.is in
    let l = leaf_end (rule_in a.system.rules.now) a.system.input.now a.x.called a.x.target q b.called_in.position e in
    let f = c.success.ensures.1 ∙ success_reach (rule_in a.system.rules.now a.x.called) a.system.input.now a.x.target q e in
    let s : Settled (length a.system.input.now) c.success.result.0 (success q) = record { code_is = c.success.ensures.0; ends = l } in
    let far = sym (stored_reach a.table.now (cell (length a.system.input.now) (called_of a.x)) c.success.result.0 c.success.result.1 b.called_cell) in
    steps_resume (rule_in a.system.rules.now) a.system.input.now a.table.now a.work.now a.x c.success.result {r = success q} s (leaf_settled c.requires.1 e s f) far r.called b.called_cell c.settle_leaf.result c.settle_leaf.ensures

pub returns-in-Failure : goal.returns-in-Failure
returns-in-Failure c =
    let a = c.args in
    let r = c.requires.0 in
    let b = step_bounds r in
    let e = sym c.act_at.ensures ∙ ap told c.in-Failure.is in
    let f = c.failure.ensures.1 ∙ c.leaf_reach-reach.ensures in
    let s = failure_settled (length a.system.input.now) c.failure.result.0 c.failure.ensures.0 in
    let far = sym (stored_reach a.table.now (cell (length a.system.input.now) (called_of a.x)) c.failure.result.0 c.failure.result.1 b.called_cell) in
    steps_resume (rule_in a.system.rules.now) a.system.input.now a.table.now a.work.now a.x c.failure.result {r = failure} s (leaf_settled c.requires.1 e s f) far r.called b.called_cell c.settle_leaf-in-Failure.result c.settle_leaf-in-Failure.ensures
