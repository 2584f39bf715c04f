use Rattle.letters.proofs.Progress.{Progress}
use Rattle.letters.proofs.number_letters.Given as goal

abbrev pub invariant-loop-b : goal.invariant-loop-b
invariant-loop-b l = Progress l.text l.b-index l.from.skip l.from.count l.numbers
