use mathlib.Core.Path.{refl}
use Rattle.entryreader.proofs.entryreader_judge.Goals as goal

pub returns : goal.returns
returns c =
    let v = c.verdict-judgement in
    record { found = v.result; promise = v.ensures; returns = refl; reports = c.numbers_of.ensures }
