use mathlib.Core.Path.{subst}
use Prim.Native.Nat.{◌+◌}
use native.Mathlib.Omega.{arith}
use lib.ListN.{get_or}
use Rattle.grammar.specs.Rule.{byte}
use Rattle.notation.specs.Emit.{put}
use Rattle.pieces.specs.Store.{Makes}
use Rattle.pieces.specs.declared.Piece.{Piece}
use Rattle.pieces.proofs.Scanning.{rest_byte, quote_short, quote_open}
use Rattle.pieces.proofs.Finding.{finds_quoted}
use Rattle.pieces.proofs.read_quoted.Goals as goal

pub returns-in_default : goal.returns-in_default
returns-in_default c number E depth x =
    let a = c.args in
    let l = c.in_default.len_below in
    quote_short a.s.now a.from.at depth c.requires.1 x (omega arith)

pub returns-in_default-2 : goal.returns-in_default-2
returns-in_default-2 c number E depth x =
    let a = c.args in
    let l = c.in_default.len_at_least in
    let e = rest_byte a.s.now a.from.at 2 in
    quote_open a.s.now a.from.at depth c.requires.1 x (omega arith) (λ z. omega arith)

pub returns : goal.returns
returns c number E depth =
    let a = c.args in
    let l = c.in-39.len_at_least in
    let b = get_or a.s.now (a.from.at + 1) 0 in
    let e = rest_byte a.s.now a.from.at 1 in
    let f = rest_byte a.s.now a.from.at 2 in
    finds_quoted number E a.s.now depth a.from c.requires.0 c.with_rule.result a.rules.now _ c.requires.1 (omega arith) (omega arith)
    (subst (λ (p : Piece). Makes (λ z. put z (byte b)) (a.from.at + 3) p a.rules.now c.with_rule.result c.with_rule.new.rules) c.moved-priced.ensures
    (c.with_rule.ensures (byte b) (cc)))
