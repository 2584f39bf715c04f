use Rattle.std.specs.Prelude.{Some}
use Rattle.std.proofs.lemmas.Result.{err_from_is_err_and}
use mathlib.Core.Bool.{false}
use mathlib.Core.List.{List}
use mathlib.Core.Option.{Option, none}
use mathlib.Core.Path.{◌≡◌, sym, ap, ◌∙◌, subst}
use Prim.Native.Nat.{ℕ, ◌+◌}
use native.Mathlib.Omega.{arith}
use lib.ListN.{get_or}
use Rattle.notation.specs.Scan.{part}
use Rattle.notation.specs.Text.{Choice, empty}
use Rattle.pieces.specs.Piece.{closing, begins_item, rows, choices, Refuses, Finds}
use Rattle.pieces.specs.Store.{number_held}
use Rattle.pieces.specs.declared.Piece.{Piece}
use Rattle.pieces.proofs.Bytes.{Opens, opens}
use Rattle.pieces.proofs.Scanning.{too_deep}
use Rattle.pieces.proofs.Finding.{choice_begins, choice_grows, choice_refused, row_begins, row_grows, finds_bracket, inside_refused, bracket_refused}
use Rattle.pieces.proofs.source.Source.+read_choice_read_item_read_row.Goals as goal

-- ---- A choice.

pub read_choice-loop-next-init : goal.read_choice-loop-next-init
read_choice-loop-next-init t c =
    let a = c.args in
    let v = a.self.now in
    let f = c.in_ok-here.ensures in
    record { here = choice_begins (number_held v.numbers.now) v.always v.text.now a.depth a.from c.in_ok-here.here a.rules.now c.read_row.new.rules f.0; ends = f.1 }

pub read_choice-returns-in_err-row : goal.read_choice-returns-in_err-row
read_choice-returns-in_err-row t c =
    let a = c.args in
    let v = a.self.now in
    let l = c.loop-next in
    let n = number_held v.numbers.now in
    let p = err_from_is_err_and c.from_residual-in_err-row.result c.from_residual-in_err-row.ensures.1 in
    rw (p.1, p.2) (λ u. choice_refused n v.always v.text.now a.depth a.from a.rules.now l.rules l.here _ l.invariant.here
    (sym c.byte_at.ensures ∙ c.loop-next-test.true)
    (subst (λ (q : Piece). (o : Option Choice) → Refuses v.text.now a.depth q.at (part o empty) c.in_err-row.field-0.0) c.moved-next.ensures c.in_err-row.ensures))

pub read_choice-loop-next-preserved : goal.read_choice-loop-next-preserved
read_choice-loop-next-preserved t c =
    let a = c.args in
    let v = a.self.now in
    let l = c.loop-next in
    let n = number_held v.numbers.now in
    let o = c.in_ok-row in
    let m = c.either-here in
    let w = c.read_row-in-loop-next.new.rules in
    let f = subst (λ (q : Piece). Finds (rows n v.always) v.text.now a.depth q l.rules o.row w) c.moved-next.ensures o.ensures.0 in
    record {
      here = choice_grows n v.always v.text.now a.depth a.from l.here o.row m.result a.rules.now l.rules w m.new.rules l.invariant.here
          (sym c.byte_at.ensures ∙ c.loop-next-test.true) f m.ensures;
      ends = subst (λ (q : ℕ). begins_item (get_or v.text.now q 0) ≡ false) (sym m.ensures.ends_at) o.ensures.1;
    }

-- ---- An item.

-- A bracket that opens, and the byte that closes it.
opens_here : (s : List ℕ) (at b k : ℕ) → b ≡ get_or s at 0 → Some k ≡ closing b → Opens (get_or s at 0) k
opens_here s at b k e f = opens (get_or s at 0) k (f ∙ ap closing e)

pub read_item-returns-then-depth-eq-DEEPEST : goal.read_item-returns-then-depth-eq-DEEPEST
read_item-returns-then-depth-eq-DEEPEST t c =
    let a = c.args in
    let v = a.self.now in
    let o = opens_here v.text.now a.from.at _ _ c.byte_at.ensures c.in-Some.ensures in
    too_deep v.text.now a.from.at a.depth o.bracket o.opener_is c.if-depth-eq-DEEPEST.true

pub read_item-returns-in_err-choice : goal.read_item-returns-in_err-choice
read_item-returns-in_err-choice t c =
    let a = c.args in
    let v = a.self.now in
    let n = number_held v.numbers.now in
    let o = opens_here v.text.now a.from.at _ _ c.byte_at.ensures c.in-Some.ensures in
    let p = err_from_is_err_and c.from_residual.result c.from_residual.ensures.1 in
    rw (p.1, p.2) (inside_refused n v.always v.text.now a.depth a.from a.rules.now a.rules.now o.bracket _ o.opener_is c.if-depth-eq-DEEPEST.false
    (subst (λ (q : Piece). Refuses v.text.now (a.depth + 1) q.at (part none empty) c.in_err-choice.field-0.0) c.moved-inner.ensures (c.in_err-choice.ensures tt)))

pub read_item-returns-then-byte_at-closing : goal.read_item-returns-then-byte_at-closing
read_item-returns-then-byte_at-closing t c =
    let a = c.args in
    let v = a.self.now in
    let n = number_held v.numbers.now in
    let o = opens_here v.text.now a.from.at _ _ c.byte_at.ensures c.in-Some.ensures in
    let h = c.in_ok-choice in
    let f = subst (λ (q : Piece). Finds (choices n v.always) v.text.now (a.depth + 1) q a.rules.now h.choice c.read_choice.new.rules) c.moved-inner.ensures h.ensures.0 in
    bracket_refused n v.always v.text.now a.depth a.from a.rules.now c.read_choice.new.rules o.bracket h.choice o.opener_is c.if-depth-eq-DEEPEST.false
    f h.ensures.1 (λ z. c.if-byte_at-closing.true (c.byte_at-2.ensures ∙ z ∙ sym o.closer_is))

pub read_item-returns : goal.read_item-returns
read_item-returns t c =
    let a = c.args in
    let v = a.self.now in
    let n = number_held v.numbers.now in
    let o = opens_here v.text.now a.from.at _ _ c.byte_at.ensures c.in-Some.ensures in
    let h = c.in_ok-choice in
    let f = subst (λ (q : Piece). Finds (choices n v.always) v.text.now (a.depth + 1) q a.rules.now h.choice c.read_choice.new.rules) c.moved-inner.ensures h.ensures.0 in
    finds_bracket n v.always v.text.now a.depth a.from c.requires.0.few o.bracket h.choice c.in_brackets.result a.rules.now c.read_choice.new.rules c.in_brackets.new.rules
    o.opener_is c.if-depth-eq-DEEPEST.false f (sym c.byte_at-2.ensures ∙ c.if-byte_at-closing.false ∙ o.closer_is) (c.in_brackets.ensures n o.bracket o.closer_is)

-- ---- A row.

pub read_row-loop-rules-init : goal.read_row-loop-rules-init
read_row-loop-rules-init t c =
    let a = c.args in
    let v = a.self.now in
    let r = c.requires in
    row_begins (number_held v.numbers.now) v.always v.text.now a.depth a.from a.rules.now r.inside r.few v.always_few

pub read_row-loop-rules-smaller : goal.read_row-loop-rules-smaller
read_row-loop-rules-smaller t c =
    let f = c.in_ok-item.ensures in
    let h = f.0.high in
    let d = f.1 in
    let e = (c.join-here.ensures (number_held c.args.self.now.numbers.now)).ends_at in
    omega arith

pub read_row-loop-rules-preserved : goal.read_row-loop-rules-preserved
read_row-loop-rules-preserved t c =
    let a = c.args in
    let v = a.self.now in
    let n = number_held v.numbers.now in
    let l = c.loop-rules in
    let o = c.in_ok-item in
    row_grows n v.always v.text.now a.depth a.from l.here o.item c.join-here.result a.rules.now l.rules c.read_item.new.rules c.join-here.new.rules
    l.invariant o.ensures.0 (c.join-here.ensures n)
