use mathlib.Core.Path.{sym, ap, ◌∙◌, subst}
use Prim.Native.Nat.{ℕ, ◌+◌, ◌-◌}
use native.Mathlib.Omega.{arith}
use lib.ListN.{get_or}
use Rattle.pieces.specs.Store.{number_held, moved}
use Rattle.pieces.specs.declared.Piece.{Piece}
use Rattle.pieces.proofs.Bytes.{a_capital}
use Rattle.pieces.proofs.Finding.{item_inside, Item-found, finds_letter, finds_percent}
use Rattle.pieces.proofs.source.Source.read_leaf.Goals as goal

pub returns-in-37 : goal.returns-in-37
returns-in-37 c depth =
    let a = c.args in
    let v = a.self.now in
    subst (λ (p : Piece). Item-found (number_held v.numbers.now) v.always v.text.now depth a.from a.rules.now p a.rules.now) (sym c.moved.ensures)
    (finds_percent (number_held v.numbers.now) v.always v.text.now depth a.from c.requires.few a.rules.now v.always_few (sym c.byte_at.ensures ∙ c.in-37.is))

pub returns-in_default : goal.returns-in_default
returns-in_default c depth =
    let a = c.args in
    let v = a.self.now in
    let e = c.byte_at.ensures in
    let h = a_capital (get_or v.text.now a.from.at 0) c.requires.begins c.requires.no_bracket (λ z. omega arith) (λ z. omega arith) in
    let number = number_held v.numbers.now in
    let few = v.numbers_few (get_or v.text.now a.from.at 0 - 65) in
    subst (λ (p : Piece). Item-found number v.always v.text.now depth a.from a.rules.now p a.rules.now)
    (sym (c.moved-in_default.ensures ∙ ap (λ (v : ℕ). moved a.from (a.from.at + 1) v 3) (cc)))
    (finds_letter number v.always v.text.now depth a.from c.requires.few a.rules.now (omega arith) (item_inside v.text.now a.from.at c.requires.begins) h.2)
