use mathlib.Core.Path.{refl, sym, ap, ◌∙◌}
use Rattle.grammar.specs.Reading.{rule_given}
use Rattle.grammar.proofs.Accepted.{rule_made}
use Rattle.grammar.proofs.Held.{fits_more}
use borrow.Author.Tests.{le-leb, lt-leb}
use Rattle.grammar.proofs.Header.{line_read, fails, passes}
use Rattle.grammar.proofs.RuleLine.{line_found_law, rule_found, malformed_line}
use Rattle.grammar.proofs.sheet.read_rule.Goals as goal

pub returns-in_default : goal.returns-in_default
returns-in_default c = malformed_line _ _ (line_read _ _ refl c.fields.ensures c.in_default.is)

pub returns-then-not-within : goal.returns-then-not-within
returns-then-not-within c =
    let pre = c.requires in
    line_found_law _ _ (line_read _ _ refl c.fields.ensures c.in-Some.is) pre.variables_are pre.before_is
    (fails c.within.ensures c.if-not-within.true-raw) refl refl

pub returns-then-variable-before : goal.returns-then-variable-before
returns-then-variable-before c =
    let pre = c.requires in
    line_found_law _ _ (line_read _ _ refl c.fields.ensures c.in-Some.is) pre.variables_are pre.before_is
    (passes c.within.ensures c.if-not-within.false-raw) (le-leb _ _ c.if-variable-before.true) refl

pub word-requires : goal.word-requires
word-requires c =
    fits_more _ _ c.requires.variables_few (rule_made _ _ _ _ _ _ (sym c.rule_of.ensures ∙ ap rule_given c.in-Some-rule_of.is)).fits

pub returns-in-Some-rule_of : goal.returns-in-Some-rule_of
returns-in-Some-rule_of c =
    let pre = c.requires in
    rw c.word.ensures
    (rule_found _ _ (line_read _ _ refl c.fields.ensures c.in-Some.is) pre.variables_are pre.before_is
    (passes c.within.ensures c.if-not-within.false-raw) (lt-leb _ _ c.if-variable-before.false) c.rule_of.ensures c.in-Some-rule_of.is)

pub returns-in-None : goal.returns-in-None
returns-in-None c =
    let pre = c.requires in
    rule_found _ _ (line_read _ _ refl c.fields.ensures c.in-Some.is) pre.variables_are pre.before_is
    (passes c.within.ensures c.if-not-within.false-raw) (lt-leb _ _ c.if-variable-before.false) c.rule_of.ensures c.in-None.is
