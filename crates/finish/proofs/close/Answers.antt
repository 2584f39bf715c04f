use mathlib.Core.Path.{sym, ap, ◌∙◌, subst}
use Prim.Native.Nat.{ℕ}
use native.Mathlib.Omega.{arith}
use lib.ListN.{take}
use Rattle.std.proofs.lemmas.Iterator.Adapters.{YieldsList-from_rev_slice}
use Rattle.std.proofs.lemmas.Iterator.Consumers.{YieldsList-turn, YieldsList-end}
use Rattle.std.proofs.lemmas.List.{length_push, length-reverse, length-take-le}
use Rattle.schema.specs.Cells.{stored, HasCell}
use Rattle.finish.proofs.Closing.{begins, top_within, top_in, closed_all, next_caller, closed_next}
use Rattle.finish.proofs.close.Goals as goal

pub cell_number-requires : goal.cell_number-requires
cell_number-requires c =
    let r = c.requires in
    let i = top_within r (begins r) in
    let f = r.few in
    let h = i.variable.1 in
    (i.variable.0, omega arith, r.short, i.position)

pub store-requires : goal.store-requires
store-requires c = subst (HasCell c.args.table.now) (sym c.cell_number.ensures) (top_in c.requires (begins c.requires))

pub loop-word-init : goal.loop-word-init
loop-word-init c =
    let a = c.args in
    record {
      a = a.b;
      p = a.q;
      before = a.table.now;
      left = a.depth;
      closing = begins c.requires;
      left_is = omega arith;
      table_is = c.store.ensures ∙ ap (λ (k : ℕ). stored a.table.now k a.outcome.0 a.outcome.1) c.cell_number.ensures;
    }

pub cell_number-requires-in-loop-word : goal.cell_number-requires-in-loop-word
cell_number-requires-in-loop-word c =
    let r = c.requires in
    let t = YieldsList-turn (YieldsList-from_rev_slice (take c.args.depth c.args.work.now) (grind arith)) c.loop-word.yielded _ c.loop-word.yielded_by _ _ c.in-Some.word c.in-Some.is c.next.ensures.steps in
    let i = top_within r (next_caller r c.loop-word.invariant t) in
    let u = c.unpack-caller.ensures in
    let f = r.few in
    let h = i.variable.1 in
    rw (u.0, u.1) (i.variable.0, omega arith, r.short, i.position)

pub store-requires-in-loop-word : goal.store-requires-in-loop-word
store-requires-in-loop-word c =
    let r = c.requires in
    let t = YieldsList-turn (YieldsList-from_rev_slice (take c.args.depth c.args.work.now) (grind arith)) c.loop-word.yielded _ c.loop-word.yielded_by _ _ c.in-Some.word c.in-Some.is c.next.ensures.steps in
    let u = c.unpack-caller.ensures in
    rw (c.cell_number-in-loop-word.ensures, u.0, u.1) (top_in r (next_caller r c.loop-word.invariant t))

pub loop-word-preserved : goal.loop-word-preserved
loop-word-preserved c =
    let a = c.args in
    let t = YieldsList-turn (YieldsList-from_rev_slice (take a.depth a.work.now) (grind arith)) c.loop-word.yielded _ c.loop-word.yielded_by _ _ c.in-Some.word c.in-Some.is c.next.ensures.steps in
    let u = c.unpack-caller.ensures in
    closed_next c.requires c.loop-word.invariant t (rw (c.store-in-loop-word.ensures, c.cell_number-in-loop-word.ensures, u.0, u.1)) (length_push c.loop-word.yielded c.in-Some.word)

pub returns : goal.returns
returns c =
    let a = c.args in
    let r = c.requires in
    let t = YieldsList-end (YieldsList-from_rev_slice (take a.depth a.work.now) (grind arith)) c.loop-word.yielded _ c.loop-word.yielded_by _ _ c.in-None.is c.next.ensures.steps in
    let e = length-reverse (take a.depth a.work.now) in
    let d = r.deep in
    let o = r.work_room in
    let f = length-take-le a.depth a.work.now (omega arith) in
    closed_all r c.loop-word.invariant (t.1 ∙ e ∙ f)
