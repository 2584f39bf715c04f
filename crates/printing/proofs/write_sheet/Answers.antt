use native.Mathlib.Omega.{arith}
use Rattle.grammar.specs.Words.{rule_in}
use Rattle.printing.proofs.Putting.{sheet_put}
use Rattle.printing.proofs.write_sheet.Goals as goal

pub returns : goal.returns
returns c =
    let a = c.args in
    sheet_put a.variables a.start a.endmarker (rule_in a.rules.now) a.out.now c.write_row.new.out _ _ (omega arith) c.write_row.ensures
    c.put_rules.ensures
