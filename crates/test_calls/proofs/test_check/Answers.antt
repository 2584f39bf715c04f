use Rattle.test_calls.proofs.test_check.Goals as goal

pub returns : goal.returns
returns c = c.report_check.ensures
