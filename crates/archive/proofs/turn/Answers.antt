use Rattle.archive.proofs.Turning.{all_turned}
use Rattle.archive.proofs.turn.Goals as goal

pub returns : goal.returns
returns c = all_turned c.turn_blocks-left.ensures c.turn_blocks.ensures
