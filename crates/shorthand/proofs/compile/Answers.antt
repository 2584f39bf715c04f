use native.Mathlib.Omega.{arith}
use Rattle.std.proofs.lemmas.Result.{err_from_is_err_and}
use Rattle.shorthand.proofs.Compiling.{numbers_few, lines_ready, end_ready, compiled, compile_refused}
use Rattle.shorthand.proofs.compile.Goals as goal

pub invariant_of-source-clause-numbers_few : goal.invariant_of-source-clause-numbers_few
invariant_of-source-clause-numbers_few c = numbers_few _ _ _ c.number_letters-count.ensures

pub read_lines-requires : goal.read_lines-requires
read_lines-requires c = lines_ready _ _ _ c.number_letters-count.ensures

pub returns-in_err-read : goal.returns-in_err-read
returns-in_err-read c =
    let p = err_from_is_err_and c.from_residual.result c.from_residual.ensures.1 in
    rw (p.1, p.2) (compile_refused _ c.args.out.now _ (λ i. omega (arith, c.type_inv.text i)) c.in_err-read.ensures)

pub write_rules-requires : goal.write_rules-requires
write_rules-requires c =
    end_ready _ _ _ c.number_letters-count.ensures (λ i. omega (arith, c.type_inv.text i)) _ _ (rw (c.word.ensures, c.word-2.ensures) at c.in_ok-read.ensures)

pub returns : goal.returns
returns c =
    compiled _ _ _ c.number_letters-count.ensures (λ i. omega (arith, c.type_inv.text i)) _ _ (rw (c.word.ensures, c.word-2.ensures) at c.in_ok-read.ensures) _ _ _ c.write_rules.ensures
