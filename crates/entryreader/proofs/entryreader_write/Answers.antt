use Rattle.entryreader.proofs.entryreader_write.Goals as goal

pub returns : goal.returns
returns c = c.report_write.ensures
