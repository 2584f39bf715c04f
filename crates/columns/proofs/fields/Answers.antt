use Rattle.std.proofs.Common.{◌*◌, sym, ◌∙◌, arith}
use Rattle.std.proofs.lemmas.List.{length-replicate}
use Rattle.columns.proofs.Parts.{starts, stops, reads_on, all_read, line_lent, width_is, fields_within, fields_short, ends_before, ends_in_line}
use Rattle.columns.proofs.fields.Goals as goal

pub returns-in_err-get : goal.returns-in_err-get
returns-in_err-get g c =
    let s = c.args.s.now in
    let e = ends_before s _ 0 c.in_err-get.ensures.lookup.0 in
    rw c.from_residual.ensures (sym (fields_short g.row.W s g.row.N c.args.at c.requires.any (omega arith)))

pub returns-in_err-line : goal.returns-in_err-line
returns-in_err-line g c =
    let s = c.args.s.now in
    let l = c.in_ok-get.ensures.lookup.0 in
    let m = width_is g.row.W g.row.N in
    let e = ends_in_line s _ _ (g.row.N * g.row.W) l.0 l.2 c.in_err-line.ensures.lookup.0 in
    rw c.from_residual-in_err-line.ensures (sym (fields_short g.row.W s g.row.N c.args.at c.requires.any (omega arith)))

pub loop-x-init : goal.loop-x-init
loop-x-init g c = starts g.row.W g.row.N c.in_ok-line.line.now _ (length-replicate g.row.N 0) (omega arith)

pub returns-in_err-x : goal.returns-in_err-x
returns-in_err-x g c =
    let s = c.args.s.now in
    let l = c.in_ok-get.ensures.lookup.0 in
    let m = c.in_ok-line.ensures.lookup.0 in
    let p = line_lent s _ c.in_ok-line.line.now _ g.row.W g.row.N l.0 l.2 m.1 m.2 in
    rw c.from_residual-in_err-x.ensures
    (sym (sym (fields_within g.row.W s c.in_ok-line.line.now g.row.N c.args.at p (omega arith))
    ∙ stops g.row.W g.row.N c.in_ok-line.line.now c.loop-x.invariant c.loop-x-test.true c.in_err-x.ensures))

pub loop-x-preserved : goal.loop-x-preserved
loop-x-preserved g c = reads_on g.row.W g.row.N c.in_ok-line.line.now c.loop-x.invariant c.loop-x-test.true c.in_ok-x.ensures

pub returns : goal.returns
returns g c =
    let s = c.args.s.now in
    let l = c.in_ok-get.ensures.lookup.0 in
    let m = c.in_ok-line.ensures.lookup.0 in
    let p = line_lent s _ c.in_ok-line.line.now _ g.row.W g.row.N l.0 l.2 m.1 m.2 in
    sym (sym (fields_within g.row.W s c.in_ok-line.line.now g.row.N c.args.at p (omega arith))
    ∙ all_read g.row.W g.row.N c.in_ok-line.line.now c.loop-x.invariant (omega arith))
