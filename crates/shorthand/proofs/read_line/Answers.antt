use mathlib.Core.Path.{sym, ◌∙◌}
use Rattle.std.proofs.lemmas.Result.{err_from_is_err_and}
use Rattle.shorthand.proofs.Lining.{opens, not_opened}
use Rattle.shorthand.proofs.LineFound.{choice_ready, choice_refused, end_refused, line_is}
use Rattle.shorthand.proofs.read_line.Goals as goal

pub returns-in_default : goal.returns-in_default
returns-in_default c = λ ls d. not_opened _ _ _ ls c.requires.inside d c.in_default.ensures.value

pub read_choice-requires : goal.read_choice-requires
read_choice-requires c =
    let v = c.args.source.now in
    choice_ready v.numbers.now _ _ _ _ c.requires _ (opens _ _ _ _ c.in-Some.ensures.value) v.always_few

pub returns-in_err-choice : goal.returns-in_err-choice
returns-in_err-choice c =
    let v = c.args.source.now in
    let p = err_from_is_err_and c.from_residual.result c.from_residual.ensures.1 in
    rw (p.1, p.2) (choice_refused v.numbers.now v.always _ _ _ c.requires _ (opens _ _ _ _ c.in-Some.ensures.value) _ c.in_err-choice.ensures)

pub returns-then-byte_at-ne10 : goal.returns-then-byte_at-ne10
returns-then-byte_at-ne10 c =
    let t = c.in_ok-choice.ensures in
    end_refused _ _ _ _ _ c.requires _ (opens _ _ _ _ c.in-Some.ensures.value) t.0 t.1 (λ z. c.if-byte_at-ne10.true (c.byte_at.ensures ∙ z))

pub returns : goal.returns
returns c =
    let t = c.in_ok-choice.ensures in
    line_is _ _ _ _ _ c.requires _ (opens _ _ _ _ c.in-Some.ensures.value) t.0 (sym c.byte_at.ensures ∙ c.if-byte_at-ne10.false) c.name_choice.ensures
