use borrow.Author.Tests.{eq-eqb, ne_eqb, lt-ltb, le-ltb}
use Rattle.grammar.specs.Sheet.{not_lines}
use Prim.Native.Nat.{◌/◌}
use native.Mathlib.Omega.{arith}
use lib.ListN.{length}
use Rattle.grammar.proofs.sheet.not_lines.Goals as goal

pub returns-then-s-eq0 : goal.returns-then-s-eq0
unfolding not_lines
returns-then-s-eq0 c = simp (eq-eqb _ _ c.if-s-eq0.true)

pub returns-then-s-ne0 : goal.returns-then-s-ne0
unfolding not_lines
returns-then-s-ne0 c = simp (ne_eqb _ _ c.if-s-eq0.false, ne_eqb _ _ c.if-s-ne0.true)

pub returns-then-s-gt257 : goal.returns-then-s-gt257
unfolding not_lines
returns-then-s-gt257 c = simp (ne_eqb _ _ c.if-s-eq0.false, eq-eqb _ _ c.if-s-ne0.false, lt-ltb 257 (length c.args.s.now / 26) (omega arith))

pub returns : goal.returns
unfolding not_lines
returns c = simp (ne_eqb _ _ c.if-s-eq0.false, eq-eqb _ _ c.if-s-ne0.false, le-ltb 257 (length c.args.s.now / 26) (omega arith)) c.open_line.ensures
