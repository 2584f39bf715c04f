use mathlib.Core.Bool.{Bool, not, ◌&&◌, ◌||◌}
use mathlib.Core.Path.{ap, ap₂, ◌∙◌}
use Prim.Native.Nat.{ℕ}
use lib.Dec.{eqb, ltb}
use Rattle.kept.specs.Kept.{looks_below}
use Rattle.kept.specs.Range.{out_of_range}
use Rattle.passes.proofs.Looking.{looking_on}
use Rattle.passes.proofs.look.Goals as goal

pub loop-position-preserved : goal.loop-position-preserved
loop-position-preserved c =
    let g = c.loop-position in
    let a = c.args in
    let e = ap₂ {C = ℕ × ℕ} (λ (o m : ℕ). (o, m)) c.load-cell.ensures.0 c.load-cell.ensures.1 in
    let stay = ap (λ (x : Bool). not (ltb g.position a.limit) || x) (c.looks_below.ensures ∙ ap (looks_below a.limit) e) in
    let far = c.out_of_range.ensures ∙ ap (out_of_range a.n g.position) e in
    let none = c.is_blank.ensures ∙ ap (λ (k : ℕ × ℕ). eqb k.0 0 && eqb k.1 0) e in
    looking_on a.n a.limit a.table.now a.start g.invariant stay far none
