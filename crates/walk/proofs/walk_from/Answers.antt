use mathlib.Core.Path.{refl, sym, ap, ◌∙◌}
use native.Mathlib.Omega.{arith}
use lib.ListN.{length}
use Rattle.grammar.specs.Words.{rule_in}
use Rattle.rules.specs.Act.{told}
use Rattle.schema.specs.Derivation.{success, failure, missing}
use Rattle.schema.proofs.Examined.{success_reach}
use Rattle.step.specs.Codes.{Settled}
use Rattle.step.specs.declared.Walk.TheVariants as walk
use Rattle.walk.proofs.Counting.{asked_counts}
use Rattle.step.proofs.Looking.{failure_settled, leaf_end}
use Rattle.walk.proofs.Marks.{settled_full}
use Rattle.walk.proofs.Stepping.{leaf_ends, stuck_first}
use Rattle.walk.proofs.walk_from.Goals as goal

pub success-leaf-requires : goal.success-leaf-requires
success-leaf-requires c =
    let a = c.args in
    let r = c.requires in
    let e = sym c.act_at.ensures ∙ ap told c.in-Success.is in
    let q = leaf_end (rule_in a.system.rules.now) a.system.input.now a.variable a.position _ r.within.position e in
    let w = r.walkable.short in
    omega arith

pub returns-in-Success : goal.returns-in-Success
returns-in-Success c =
    let a = c.args in
    let r = c.requires in
    let q = c.in-Success.end in
    let e = sym c.act_at.ensures ∙ ap told c.in-Success.is in
    let l = leaf_end (rule_in a.system.rules.now) a.system.input.now a.variable a.position q r.within.position e in
    let f = c.success-leaf.ensures.1 ∙ success_reach (rule_in a.system.rules.now a.variable) a.system.input.now a.position q e in
    let s : Settled (length a.system.input.now) c.success-leaf.result.0 (success q) = record { code_is = c.success-leaf.ensures.0; ends = l } in
    rw (c.settle_asked-end.ensures.stores, c.settle_asked-end.ensures.ends) (record { ends = leaf_ends r c.success-leaf.result (success q) s e f; counts = asked_counts r c.success-leaf.result.0 c.success-leaf.result.1 (settled_full (success q) s) })

pub returns-in-Failure : goal.returns-in-Failure
returns-in-Failure c =
    let a = c.args in
    let r = c.requires in
    let e = sym c.act_at.ensures ∙ ap told c.in-Failure.is in
    let f = c.failure-leaf.ensures.1 ∙ c.leaf_reach.ensures in
    let s = failure_settled (length a.system.input.now) c.failure-leaf.result.0 c.failure-leaf.ensures.0 in
    rw (c.settle_asked-end-in-Failure.ensures.stores, c.settle_asked-end-in-Failure.ensures.ends) (record { ends = leaf_ends r c.failure-leaf.result failure s e f; counts = asked_counts r c.failure-leaf.result.0 c.failure-leaf.result.1 (settled_full failure s) })

pub returns-in-Missing : goal.returns-in-Missing
returns-in-Missing c =
    let a = c.args in
    record { ends = stuck_first c.requires missing (sym c.act_at.ensures ∙ ap told c.in-Missing.is) (walk.Missing a.variable a.position 0) refl refl refl (λ opens u. u) tt; counts = omega arith }
