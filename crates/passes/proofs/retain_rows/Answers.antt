use Prim.Native.Nat.{ℕ, ◌<◌}
use native.Mathlib.Omega.{arith}
use Rattle.std.proofs.lemmas.List.{get_or-take, length-take}
use Rattle.passes.proofs.Rows.{row_inside}
use Rattle.passes.proofs.Blanking.{retains_more, row_unchanged}
use Rattle.passes.proofs.retain_rows.Goals as goal

pub retain_row-requires : goal.retain_row-requires
retain_row-requires c =
    let a = c.args in
    let r = c.requires.0 in
    let l = c.loop-row in
    let t : l.row < a.variables = let h = c.loop-row-test.true in omega (arith, length-take {A = ℕ}) in
    let i = row_inside a.variables a.n l.row t in
    let z = l.invariant.size in
    let u = row_unchanged t l.invariant c.requires.1 in
    rw (get_or-take a.variables a.firsts.now l.row 0 t) (u.0, omega (arith, r.room, r.inside), u.1)

pub loop-row-preserved : goal.loop-row-preserved
loop-row-preserved c = retains_more c.requires.0.inside c.loop-row.invariant c.retain_row.ensures
