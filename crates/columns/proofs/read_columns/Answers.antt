use Rattle.std.proofs.Common.{◌∙◌, ap, arith}
use Rattle.columns.specs.Scan.{held}
use Rattle.columns.proofs.Laws.{none_begins, begins, zero_read, digits_read}
use Rattle.columns.proofs.read_columns.Goals as goal

pub returns-in_err-digits : goal.returns-in_err-digits
returns-in_err-digits c = rw c.from_residual.ensures (none_begins c.args.columns.now c.in_err-digits.ensures)

pub returns-then-digits-eq48 : goal.returns-then-digits-eq48
returns-then-digits-eq48 c =
    let h = begins c.args.columns.now _ c.in_ok-digits.ensures in
    ap held c.then_some.ensures ∙ zero_read h (omega arith)

pub returns : goal.returns
returns c =
    let h = begins c.args.columns.now _ c.in_ok-digits.ensures in
    c.read_digits.ensures ∙ digits_read h (λ e. c.if-digits-eq48.false (omega arith))
