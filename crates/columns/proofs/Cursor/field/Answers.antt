use Rattle.std.proofs.Common.{ℕ, ap, sym, ◌∙◌, arith}
use Rattle.std.proofs.Math.Option.{none, some}
use Rattle.columns.specs.Column.{number}
use Rattle.columns.proofs.Laws.{short, found}
use Rattle.columns.proofs.Parts.{part_lent, ends_before, ends_within}
use Rattle.columns.proofs.Cursor.field.Goals as goal

pub returns-in_err-get : goal.returns-in_err-get
returns-in_err-get g c =
    let s = c.args.s.now in
    let at = c.args.self.at in
    rw c.from_residual.ensures (short g.row.W s at (ends_before s at g.row.W c.in_err-get.ensures.lookup.0))

pub returns-in_err-columns : goal.returns-in_err-columns
returns-in_err-columns g c =
    let s = c.args.s.now in
    let at = c.args.self.at in
    let l = c.in_ok-get.ensures.lookup.0 in
    rw c.from_residual-in_err-columns.ensures (short g.row.W s at (ends_within s _ at g.row.W l.0 l.2 c.in_err-columns.ensures.cases))

pub returns-in_err-read : goal.returns-in_err-read
returns-in_err-read g c =
    let s = c.args.s.now in
    let at = c.args.self.at in
    let l = c.in_ok-get.ensures.lookup.0 in
    let m = c.in_ok-columns.ensures.cases in
    let p = part_lent s _ _ at g.row.W l.0 l.2 m.enough m.same in
    rw c.from_residual-in_err-read.ensures (found g.row.W s at none p.inside (ap number (sym p.is) ∙ sym c.in_err-read.ensures))

pub returns : goal.returns
returns g c =
    let s = c.args.s.now in
    let at = c.args.self.at in
    let l = c.in_ok-get.ensures.lookup.0 in
    let m = c.in_ok-columns.ensures.cases in
    let p = part_lent s _ _ at g.row.W l.0 l.2 m.enough m.same in
    let x = c.in_ok-read.field-0 in
    ap (λ (k : ℕ). some (x, k)) (omega arith) ∙ found g.row.W s at (some x) p.inside (ap number (sym p.is) ∙ sym c.in_ok-read.ensures)
