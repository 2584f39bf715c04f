use mathlib.Core.Path.{ap, ◌∙◌}
use Prim.Native.Nat.{ℕ}
use native.Mathlib.Omega.{arith}
use Rattle.step.specs.Codes.{open_mark}
use Rattle.walk.proofs.Overs.{over_may_walk, over_may_finish, over_small, over_answer}
use Rattle.schema.specs.Cells.{stored}
use Rattle.walk.proofs.walk_over.Goals as goal

pub walk_from-end-requires : goal.walk_from-end-requires
walk_from-end-requires c =
    over_may_walk c.requires.0 c.requires.1 (c.store.ensures ∙ ap (λ (i : ℕ). stored c.args.table.now i open_mark 0) c.cell_number.ensures)

pub overflow_add-asked : goal.overflow_add-asked
overflow_add-asked c =
    let l = over_small c.requires.0 c.requires.1 (c.store.ensures ∙ ap (λ (i : ℕ). stored c.args.table.now i open_mark 0) c.cell_number.ensures) _ c.walk_from-end.result.count _ c.walk_from-end.ensures.counts c.newly-asked.ensures in
    omega arith

pub finish-requires : goal.finish-requires
finish-requires c =
    over_may_finish c.requires.0 c.requires.1 (c.store.ensures ∙ ap (λ (i : ℕ). stored c.args.table.now i open_mark 0) c.cell_number.ensures) c.walk_from-end.result.end c.walk_from-end.ensures.ends

pub returns : goal.returns
returns c =
    over_answer c.requires.0 c.requires.1 (c.store.ensures ∙ ap (λ (i : ℕ). stored c.args.table.now i open_mark 0) c.cell_number.ensures) _ c.walk_from-end.result.count _ c.walk_from-end.ensures.counts c.newly-asked.ensures c.finish.result c.walk_from-end.ensures.ends c.finish.ensures
