use Rattle.columns.proofs.Five.{five, last_fault, one_digit, two_fault, two_digits, fourth_fault, three_fault, three_digits, third_fault, four_fault, four_digits, second_fault, five_fault, five_digits}
use Rattle.columns.proofs.five_columns.Goals as goal

pub returns-in_err-ones : goal.returns-in_err-ones
returns-in_err-ones c =
    let h = five c.args.columns.now _ c.told-columns c.fits-columns c.first_four-left.ensures in
    rw c.from_residual.ensures (last_fault h c.in_err-ones.ensures)

pub returns-then-left-eq538976288 : goal.returns-then-left-eq538976288
returns-then-left-eq538976288 c =
    let h = five c.args.columns.now _ c.told-columns c.fits-columns c.first_four-left.ensures in
    one_digit h c.if-left-eq538976288.true c.in_ok-ones.ensures

pub returns-in_err-first_digit : goal.returns-in_err-first_digit
returns-in_err-first_digit c =
    let h = five c.args.columns.now _ c.told-columns c.fits-columns c.first_four-left.ensures in
    rw c.from_residual-in_err-first_digit.ensures (two_fault h c.if-left-eq538976288.false c.if-left-eq2105376.true c.in_err-first_digit.ensures)

pub returns-then-left-eq2105376 : goal.returns-then-left-eq2105376
returns-then-left-eq2105376 c =
    let h = five c.args.columns.now _ c.told-columns c.fits-columns c.first_four-left.ensures in
    two_digits h c.if-left-eq2105376.true c.in_ok-first_digit.ensures c.in_ok-ones.ensures

pub returns-in_err-tens : goal.returns-in_err-tens
returns-in_err-tens c =
    let h = five c.args.columns.now _ c.told-columns c.fits-columns c.first_four-left.ensures in
    rw c.from_residual-in_err-tens.ensures (fourth_fault h c.if-left-eq538976288.false c.in_err-tens.ensures)

pub returns-in_err-first_digit-2 : goal.returns-in_err-first_digit-2
returns-in_err-first_digit-2 c =
    let h = five c.args.columns.now _ c.told-columns c.fits-columns c.first_four-left.ensures in
    rw c.from_residual-in_err-first_digit-2.ensures (three_fault h c.if-left-eq2105376.false c.if-left-eq8224.true c.in_err-first_digit-2.ensures)

pub returns-then-left-eq8224 : goal.returns-then-left-eq8224
returns-then-left-eq8224 c =
    let h = five c.args.columns.now _ c.told-columns c.fits-columns c.first_four-left.ensures in
    three_digits h c.if-left-eq8224.true c.in_ok-first_digit-2.ensures c.in_ok-tens.ensures c.in_ok-ones.ensures

pub returns-in_err-hundreds : goal.returns-in_err-hundreds
returns-in_err-hundreds c =
    let h = five c.args.columns.now _ c.told-columns c.fits-columns c.first_four-left.ensures in
    rw c.from_residual-in_err-hundreds.ensures (third_fault h c.if-left-eq2105376.false c.in_err-hundreds.ensures)

pub returns-in_err-first_digit-3 : goal.returns-in_err-first_digit-3
returns-in_err-first_digit-3 c =
    let h = five c.args.columns.now _ c.told-columns c.fits-columns c.first_four-left.ensures in
    rw c.from_residual-in_err-first_digit-3.ensures (four_fault h c.if-left-eq8224.false c.if-a-eq32.true c.in_err-first_digit-3.ensures)

pub returns-then-a-eq32 : goal.returns-then-a-eq32
returns-then-a-eq32 c =
    let h = five c.args.columns.now _ c.told-columns c.fits-columns c.first_four-left.ensures in
    four_digits h c.if-a-eq32.true c.in_ok-first_digit-3.ensures c.in_ok-hundreds.ensures c.in_ok-tens.ensures c.in_ok-ones.ensures

pub returns-in_err-first_digit-4 : goal.returns-in_err-first_digit-4
returns-in_err-first_digit-4 c =
    let h = five c.args.columns.now _ c.told-columns c.fits-columns c.first_four-left.ensures in
    rw c.from_residual-in_err-first_digit-4.ensures (five_fault h c.if-a-eq32.false c.in_err-first_digit-4.ensures)

pub returns-in_err-digit : goal.returns-in_err-digit
returns-in_err-digit c =
    let h = five c.args.columns.now _ c.told-columns c.fits-columns c.first_four-left.ensures in
    rw c.from_residual-in_err-digit.ensures (second_fault h c.if-left-eq8224.false c.in_err-digit.ensures)

pub returns : goal.returns
returns c =
    let h = five c.args.columns.now _ c.told-columns c.fits-columns c.first_four-left.ensures in
    five_digits h c.in_ok-first_digit-4.ensures c.in_ok-digit.ensures c.in_ok-hundreds.ensures c.in_ok-tens.ensures c.in_ok-ones.ensures
