use Rattle.std.proofs.Common.{sym, ◌∙◌, arith}
use Rattle.kept.proofs.Differing.{other_length}
use Rattle.comparison.proofs.Comparing.{differs_before, differs_behind}
use Rattle.comparison.proofs.differs_elsewhere.Goals as goal

pub returns-then-old-input : goal.returns-then-old-input
returns-then-old-input c = let a = c.args in sym (other_length a.c a.old.now a.input.now (λ z. omega arith))

pub returns-then-part_differs : goal.returns-then-part_differs
returns-then-part_differs c =
    let a = c.args in
    let t = c.if-part_differs.true in
    t ∙ sym (differs_before a.c a.old.now a.input.now (omega arith) (sym c.part_differs.ensures ∙ t))

pub returns-else-part_differs : goal.returns-else-part_differs
returns-else-part_differs c =
    let a = c.args in
    c.part_differs-else-part_differs.ensures
    ∙ differs_behind a.c a.old.now a.input.now (omega arith) (sym c.part_differs.ensures ∙ c.if-part_differs.false)
