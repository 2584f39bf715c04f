use Rattle.test_calls.proofs.test_write.Goals as goal

pub returns : goal.returns
returns c = c.report_write.ensures
