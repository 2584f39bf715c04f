use native.Mathlib.Omega.{arith}
use mathlib.Core.Bool.{not}
use mathlib.Core.Path.{◌≡◌, ap, subst}
use Prim.Native.Nat.{ℕ, ◌+◌, ◌*◌}
use Rattle.std.proofs.Common.{false}
use Rattle.std.proofs.lemmas.Result.{err_from_is_err_and}
use Rattle.passes.specs.Passes.{Looked}
use Rattle.passes.proofs.Looking.{look_begins, look_over, look_ends, row_longer}
use Rattle.passes.proofs.look_row.Goals as goal
use Rattle.passes.proofs.look_row.Goals.{then-not-block_blank+in_ok-first, else-not-block_blank}

pub loop-block-init : goal.loop-block-init
loop-block-init c = let a = c.args in look_begins a.n a.limit a.table.now a.start

pub returns-in_err-first : goal.returns-in_err-first
returns-in_err-first c =
    let a = c.args in
    let p = err_from_is_err_and c.from_residual.result c.from_residual.ensures.1 in
    let e = c.in_err-first.ensures in
    rw (p.1, p.2) (e.0, row_longer a.n a.limit a.table.now a.start (omega arith) e.1)

pub loop-block-preserved : goal.loop-block-preserved
loop-block-preserved c =
    let a = c.args in
    let l = c.loop-block in
    let e : 16 * l.block + 16 ≡ 16 * (l.block + 1) = omega arith in
    let past : ℕ → Type 0 = λ at. Looked a.n a.limit a.table.now a.start at false c.if-not-block_blank.first in
    subst past e
    (elim c.if-not-block_blank.branch [
      | then-not-block_blank+in_ok-first k ↦ rw k.first-is k.in_ok-first.ensures
      | else-not-block_blank k ↦
          rw k.first-is
          (look_over a.n a.limit a.table.now a.start 16 c.block_blank.result (ap not k.if-not-block_blank.false) c.block_blank.ensures l.invariant)
    ])

pub returns-then-end_blank : goal.returns-then-end_blank
returns-then-end_blank c =
    let a = c.args in
    let t = c.loop-block-test.false in
    look_ends a.n a.limit a.table.now a.start c.end_blank.result c.if-end_blank.true (omega arith) (omega arith) c.end_blank.ensures c.loop-block.invariant
