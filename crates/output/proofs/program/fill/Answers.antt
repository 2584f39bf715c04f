use mathlib.Core.Path.{sym}
use Rattle.std.proofs.lemmas.List.{length-take-le}
use Rattle.output.proofs.Length.{output_within}
use Rattle.output.proofs.program.fill.Goals as goal

pub returns : goal.returns
returns c =
    let a = c.args in
    let l = output_within a.sheet.now a.input.now a.out.now c.write_output.new.out c.write_output.result c.write_output.ensures in
    (l, sym (length-take-le _ _ l))
