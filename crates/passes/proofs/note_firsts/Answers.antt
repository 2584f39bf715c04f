use mathlib.Core.Path.{◌≡◌}
use Prim.Native.Nat.{ℕ, ◌<◌}
use native.Mathlib.Omega.{arith}
use Rattle.std.proofs.lemmas.List.{length-take}
use Rattle.std.proofs.lemmas.Result.{err_from_is_err_and}
use Rattle.passes.proofs.Looking.{rows_begin, rows_go_on, rows_out, rows_in, rows_noted}
use Rattle.passes.proofs.Refusing.{refuses_out}
use Rattle.passes.proofs.note_firsts.Goals as goal

pub loop-row-init : goal.loop-row-init
loop-row-init c = let a = c.args in rows_begin a.n a.limit a.table.now _

pub returns-in_err-first-clause-refuses : goal.returns-in_err-first-clause-refuses
returns-in_err-first-clause-refuses c =
    let a = c.args in
    let t : c.loop-row.row < a.variables = let h = c.loop-row-test.true in omega (arith, length-take {A = ℕ}) in
    let p = err_from_is_err_and c.from_residual.result c.from_residual.ensures.1 in
    let e = c.in_err-first.ensures in
    rw (p.1, p.2) (refuses_out _ (rows_out a.n a.limit a.table.now t e.1) e.0)

pub returns-in_err-first-clause-notes : goal.returns-in_err-first-clause-notes
returns-in_err-first-clause-notes c =
    let a = c.args in
    let t : c.loop-row.row < a.variables = let h = c.loop-row-test.true in omega (arith, length-take {A = ℕ}) in
    rw (rows_out a.n a.limit a.table.now t c.in_err-first.ensures.1) tt

pub loop-row-preserved : goal.loop-row-preserved
loop-row-preserved c =
    let a = c.args in
    let l = c.loop-row in
    let h = c.loop-row-test.true in
    rows_go_on a.n a.limit a.table.now l.invariant c.in_ok-first.ensures c.requires.0.inside (let z = l.auto.first-items in omega arith)

pub returns-clause-refuses : goal.returns-clause-refuses
returns-clause-refuses c =
    let a = c.args in
    let few = c.requires.0.few in
    rw (rows_in a.n a.limit a.table.now c.loop-row.invariant a.variables (omega (arith, length-take {A = ℕ})))

pub returns-clause-notes : goal.returns-clause-notes
returns-clause-notes c =
    let a = c.args in
    let l = c.loop-row in
    let few = c.requires.0.few in
    let e : l.row ≡ a.variables = omega (arith, length-take {A = ℕ}) in
    let z = l.auto.first-items in
    rw (rows_in a.n a.limit a.table.now l.invariant a.variables e) (rows_noted a.n a.limit a.table.now l.invariant a.variables _ e (omega (arith, length-take {A = ℕ})))
