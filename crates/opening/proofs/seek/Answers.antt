use native.Mathlib.Omega.{arith}
use Rattle.opening.proofs.Sought.{seeking_goes_on, found_here, found_at_end}
use Rattle.opening.proofs.seek.Goals as goal

pub returns-then-loops : goal.returns-then-loops
returns-then-loops c =
    found_here c.loop-m.invariant _ c.loops.ensures (grind arith) c.loop-m-test.true c.if-loops.true

pub loop-m-preserved : goal.loop-m-preserved
loop-m-preserved c =
    seeking_goes_on c.loop-m.invariant _ c.loops.ensures (grind arith) c.loop-m-test.true c.if-loops.false

pub returns : goal.returns
returns c = found_at_end c.loop-m.invariant _ (omega arith) c.loop-m-test.false c.requires.loops
