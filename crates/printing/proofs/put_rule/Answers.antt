use mathlib.Core.Path.{◌≡◌, ◌∙◌, ap}
use native.Mathlib.Omega.{arith}
use lib.ListN.{length, length-take, length-drop}
use Rattle.columns.specs.Column.{row}
use Rattle.grammar.specs.Words.{rule_for}
use Rattle.printing.specs.Listing.{numbers_of}
use Rattle.printing.proofs.Numbers.{no_numbers, some_numbers}
use Rattle.printing.proofs.Putting.{puts_none, puts_line}
use Rattle.printing.proofs.put_rule.Goals as goal

pub returns-in_default : goal.returns-in_default
returns-in_default c =
    let a = c.args in
    puts_none a.at a.variable a.out.now (rule_for a.word) (no_numbers a.variable (rule_for a.word) (c.in_default.ensures ∙ ap (numbers_of a.variable) c.from.ensures))

pub returns : goal.returns
returns c =
    let a = c.args in
    let s = some_numbers a.variable (rule_for a.word) (c.in-Some.ensures ∙ ap (numbers_of a.variable) c.from.ensures) in
    let n : length c.write_row.new.out ≡ 26 = c.write_row.auto.out ∙ simp (length-take, length-drop) (omega arith) in
    puts_line a.at a.variable a.out.now (rule_for a.word) s.0 c.write_row.new.out (c.write_row.ensures ∙ ap (row 5) s.1) n
