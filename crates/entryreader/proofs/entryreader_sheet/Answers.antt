use Rattle.entryreader.proofs.Read.{sheet_reported}
use Rattle.entryreader.proofs.entryreader_sheet.Goals as goal

pub returns : goal.returns
returns c =
    let k = c.read_sheet-found in
    let t = c.report_sheet.ensures in
    sheet_reported _ _ _ k.result k.ensures _ _ t.returns t.reports
