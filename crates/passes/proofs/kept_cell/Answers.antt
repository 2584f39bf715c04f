use mathlib.Core.Path.{refl, sym, ◌∙◌}
use Rattle.passes.proofs.kept_cell.Goals as goal

pub returns-then-looks_below : goal.returns-then-looks_below
returns-then-looks_below c = rw (sym c.looks_below.ensures ∙ c.if-looks_below.true) (refl, refl)

pub returns : goal.returns
returns c = rw (sym c.looks_below.ensures ∙ c.if-looks_below.false) (refl, refl)
