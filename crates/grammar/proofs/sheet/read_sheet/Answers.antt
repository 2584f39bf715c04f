use mathlib.Core.Path.{refl, sym, ap, ◌∙◌}
use native.Mathlib.Omega.{arith}
use Rattle.grammar.specs.Promise.{told}
use Rattle.grammar.proofs.HandedOn.{handed_on}
use Rattle.grammar.proofs.Words.{words_none}
use Rattle.grammar.proofs.Whole.{lines_whole, header_read, header_in_range, sheet_not_lines, sheet_header_refused, sheet_rules_refused, sheet_accepted, header_says_law, promise_refused, promise_accepted}
use Rattle.grammar.proofs.sheet.read_sheet.Goals as goal

pub returns-then-not_lines : goal.returns-then-not_lines
returns-then-not_lines c =
    let s = c.args.s.now in
    promise_refused s _ _ _ _ _ (sheet_not_lines s (sym c.if-not_lines.true ∙ c.not_lines.ensures)) refl refl

pub returns-in_err-grammar : goal.returns-in_err-grammar
returns-in_err-grammar c =
    let s = c.args.s.now in
    promise_refused s _ _ _ _ _ (sheet_header_refused s _ _ (sym c.if-not_lines.false ∙ c.not_lines.ensures) c.in_err-grammar.ensures) (ap told (handed_on c.from_residual.ensures.1)) refl

pub overflow_cast-count : goal.overflow_cast-count
overflow_cast-count c =
    let w = lines_whole c.args.s.now (sym (sym c.if-not_lines.false ∙ c.not_lines.ensures)) in
    omega (arith, w.few_lines)

pub read_rules-requires : goal.read_rules-requires
read_rules-requires c =
    let s = c.args.s.now in
    let h = header_read s _ _ _ c.in_ok-grammar.ensures in
    let w = lines_whole s (sym (sym c.if-not_lines.false ∙ c.not_lines.ensures)) in
    let r = header_in_range s h.in_range in
    record {
      variables_are = h.variables_are;
      variables_few = omega arith;
      count_is = refl;
      count_some = w.some_lines;
      count_few = w.few_lines;
      blank = words_none 256 1;
    }

pub returns-in_err-read_rules : goal.returns-in_err-read_rules
returns-in_err-read_rules c =
    let s = c.args.s.now in
    let h = header_read s _ _ _ c.in_ok-grammar.ensures in
    promise_refused s _ _ _ _ _ (sheet_rules_refused s (sym c.if-not_lines.false ∙ c.not_lines.ensures) h c.in_err-read_rules.ensures.result_value) (ap told (handed_on c.from_residual-in_err-read_rules.ensures.1)) refl

pub returns : goal.returns
returns c =
    let s = c.args.s.now in
    let h = header_read s _ _ _ c.in_ok-grammar.ensures in
    promise_accepted s _ _ _ (sheet_accepted s (sym c.if-not_lines.false ∙ c.not_lines.ensures) h c.in_ok-read_rules.ensures.result_value) (header_says_law s h)
    c.in_ok-read_rules.ensures.stored
