use mathlib.Core.Path.{refl}
use borrow.Author.Tests.{lt-ltb, le-ltb}
use lib.ListN.{replicate}
use Rattle.output.proofs.Whole.{output_put}
use borrow.Author.Rules.{rules}
use Rattle.output.proofs.write_output.Goals as goal

pub returns-then-out-lt50209 : goal.returns-then-out-lt50209
returns-then-out-lt50209 c = rw (lt-ltb _ _ c.if-out-lt50209.true) (refl, refl)

pub returns : goal.returns
returns c =
    let a = c.args in
    rw (le-ltb _ _ c.if-out-lt50209.false)
    (output_put a.sheet.now a.input.now (replicate 2048 0) c.verdict.new.table (replicate 1024 0) c.verdict.new.work a.out.now
    c.verdict.result refl refl c.verdict.ensures c.if-out-lt50209.false c.numbers_of-four.result c.write_row.new.out c.numbers_of-four.ensures c.write_row.ensures
    c.certificate-lines.new.out c.certificate-lines.result _ _ (search rules) (search rules) c.certificate-lines.ensures)
