use Rattle.entryreader.proofs.entryreader_check.Goals as goal

pub returns : goal.returns
returns c = c.report_check.ensures
