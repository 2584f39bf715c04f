use Rattle.letters.proofs.Lettered.{adds_none, adds_one}
use Rattle.letters.proofs.number_letter.Goals as goal

pub returns-then-numbers-index-ne0 : goal.returns-then-numbers-index-ne0
returns-then-numbers-index-ne0 c = adds_none c.args.letter c.requires.0 c.if-numbers-index-ne0.true

pub returns : goal.returns
returns c = adds_one c.args.letter c.requires.0 c.if-numbers-index-ne0.false
