use Rattle.std.proofs.lemmas.Bool.Decides.{nat_tests}
use borrow.Author.Tests.{eqb-true}
use mathlib.Core.Path.{refl, sym}
use native.Mathlib.Omega.{arith}
use Rattle.shorthand.proofs.Going.{begins, goes_on, ends, empty_text}
use Rattle.shorthand.proofs.read_lines.Goals as goal

pub returns-then-is_empty : goal.returns-then-is_empty
returns-then-is_empty c = empty_text _ (eqb-true _ 0 (sym c.if-is_empty.ensures))

pub loop-here-init : goal.loop-here-init
loop-here-init c = begins _ _ _ _ _ c.requires.begins c.requires.few refl

pub loop-here-preserved : goal.loop-here-preserved
loop-here-preserved c = goes_on _ _ _ _ _ c.loop-here.invariant c.in_ok-here.ensures

pub returns : goal.returns
returns c = ends _ _ _ _ _ c.loop-here.invariant (grind (arith, nat_tests)) (omega arith)
