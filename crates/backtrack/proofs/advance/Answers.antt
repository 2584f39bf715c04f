use native.Mathlib.Omega.{arith}
use Rattle.backtrack.proofs.Moves.{turn_outcome, turn_spent, turn_deep, turn_full, turn_popped, turn_pushed}
use Rattle.backtrack.proofs.advance.Goals as goal

-- `advance` makes one move, or says what ends the run before it. Assumes nothing.
pub returns-in_err-next : goal.returns-in_err-next
returns-in_err-next c =
    let a = c.args in
    let next = c.in_err-next.ensures in
    rw c.from_residual.ensures (turn_outcome a.system.rules.now a.system.input.now a.frames.now a.budget a.x c.requires.2 _ next.0 next.1 next.2)

pub returns-then-left-eq0 : goal.returns-then-left-eq0
returns-then-left-eq0 c =
    let a = c.args in
    turn_spent a.system.rules.now a.system.input.now a.frames.now a.budget a.x c.requires.2 c.in_ok-next.next c.in_ok-next.ensures (omega arith)

pub overflow_sub-below : goal.overflow_sub-below
overflow_sub-below c =
    let a = c.args in
    let next = rw c.in-Pop.is at c.in_ok-next.ensures in
    turn_deep a.system.rules.now a.system.input.now a.frames.now a.budget a.x c.requires.2 _ next

pub returns-then-frames-x-lt3 : goal.returns-then-frames-x-lt3
returns-then-frames-x-lt3 c =
    let a = c.args in
    let g = c.in-Push in
    let next = rw g.is at c.in_ok-next.ensures in
    turn_full a.system.rules.now a.system.input.now a.frames.now a.budget a.x c.requires.2 g.flag g.stage g.variable g.position next (omega arith) (omega arith)

pub push-requires : goal.push-requires
push-requires c =
    let a = c.args in
    let next = rw c.in-Push.is at c.in_ok-next.ensures in
    let deep = turn_deep a.system.rules.now a.system.input.now a.frames.now a.budget a.x c.requires.2 _ next in
    omega arith

pub returns-in-Pop : goal.returns-in-Pop
returns-in-Pop c =
    let a = c.args in
    let g = c.in-Pop in
    let next = rw g.is at c.in_ok-next.ensures in
    turn_popped a.system.rules.now a.system.input.now a.frames.now a.budget a.x c.requires.2 g.flag g.position next (omega arith)

pub returns-else-frames-x-lt3 : goal.returns-else-frames-x-lt3
returns-else-frames-x-lt3 c =
    let a = c.args in
    let g = c.in-Push in
    let next = rw g.is at c.in_ok-next.ensures in
    turn_pushed a.system.rules.now a.system.input.now a.frames.now a.budget a.x c.requires.2 g.flag g.stage g.variable
    g.position c.push.new.frames next (omega arith) (omega arith)
    c.push.auto.frames c.push.ensures
