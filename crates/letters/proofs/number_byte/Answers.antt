use mathlib.Core.Path.{sym, ◌∙◌}
use Rattle.letters.proofs.Progress.{passes_over, passes_quote, passes_letter, passes_other}
use Rattle.letters.proofs.number_byte.Goals as goal

pub returns-then-skip-gt0 : goal.returns-then-skip-gt0
returns-then-skip-gt0 c = passes_over c.args.b c.args.from c.if-skip-gt0.true

pub returns-then-b-eq39 : goal.returns-then-b-eq39
returns-then-b-eq39 c = passes_quote c.args.b c.args.from c.if-skip-gt0.false c.if-b-eq39.true

pub number_letter-requires : goal.number_letter-requires
number_letter-requires c = (sym c.is_ascii_uppercase.ensures.value ∙ c.if-is_ascii_uppercase.true, c.requires)

pub returns-then-is_ascii_uppercase : goal.returns-then-is_ascii_uppercase
returns-then-is_ascii_uppercase c =
    let a = c.args in
    passes_letter a.b a.from c.if-skip-gt0.false c.if-b-eq39.false
    (sym c.is_ascii_uppercase.ensures.value ∙ c.if-is_ascii_uppercase.true) c.number_letter.ensures

pub returns : goal.returns
returns c =
    let a = c.args in
    passes_other a.b a.from c.if-skip-gt0.false c.if-b-eq39.false (sym c.is_ascii_uppercase.ensures.value ∙ c.if-is_ascii_uppercase.false)
