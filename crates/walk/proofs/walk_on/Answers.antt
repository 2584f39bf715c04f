use mathlib.Core.Path.{refl, ◌∙◌}
use native.Mathlib.Omega.{arith}
use lib.ListN.{length}
use Rattle.schema.specs.Table.{held}
use Rattle.step.specs.Step.{called_of}
use Rattle.walk.proofs.Counting.{count_small, counts_on, counts_end}
use Rattle.step.proofs.Looking.{fresh_small}
use Rattle.walk.proofs.Still.{table_length}
use Rattle.step.proofs.Stepped.{step_bounds}
use Rattle.walk.proofs.Stepping.{stands_first, ready_still, goes_on, ends}
use Rattle.walk.proofs.walk_on.Goals as goal

pub loop-next-init : goal.loop-next-init
loop-next-init c =
    let r = c.requires in
    record { standing = stands_first r.0 _ r.1.0 r.1.1 r.1.2 _ refl refl refl refl; counts = omega arith }

pub newly-count-requires : goal.newly-count-requires
newly-count-requires c =
    let r = c.requires.0 in
    let b = step_bounds (ready_still r c.loop-next.invariant.standing) in
    (b.called_in.variable.0, b.called_high, r.walkable.short, b.called_in.position, b.called_cell)

pub overflow_add-count : goal.overflow_add-count
overflow_add-count c =
    let m = count_small c.requires.0 c.loop-next.invariant in
    let e = c.newly-count.ensures in
    let f = fresh_small (held (length c.args.system.input.now) c.loop-next.table (called_of c.loop-next.x)) in
    omega arith

pub advance-requires : goal.advance-requires
advance-requires c = ready_still c.requires.0 c.loop-next.invariant.standing

pub loop-next-smaller : goal.loop-next-smaller
loop-next-smaller c = (goes_on c.requires.0 c.loop-next.invariant.standing _ (rw c.in-Continue.is at c.advance.ensures)).1

pub loop-next-preserved : goal.loop-next-preserved
loop-next-preserved c =
    let r = c.requires.0 in
    let g = c.loop-next.invariant in
    let h = rw c.in-Continue.is at c.advance.ensures in
    record { standing = (goes_on r g.standing _ h).0; counts = counts_on r g _ _ _ _ c.newly-count.ensures h }

pub shape_of-table-in-Break : goal.shape_of-table-in-Break
shape_of-table-in-Break c = c.advance.auto.table ∙ table_length c.requires.0 c.loop-next.invariant.standing.through

pub shape_of-work-in-Break : goal.shape_of-work-in-Break
shape_of-work-in-Break c = c.advance.auto.work ∙ c.loop-next.invariant.standing.work_size

pub returns-in-Break : goal.returns-in-Break
returns-in-Break c =
    let r = c.requires.0 in
    let g = c.loop-next.invariant in
    let h = rw c.in-Break.is at c.advance.ensures in
    record { ends = ends r g.standing _ h; counts = counts_end r g _ _ c.in-Break.end _ c.newly-count.ensures h }
