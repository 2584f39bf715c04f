use native.Mathlib.Omega.{arith}
use Rattle.pieces.proofs.Storing.{put_makes}
use Rattle.pieces.proofs.with_rule.Goals as goal

pub returns : goal.returns
returns c x e = let a = c.args in put_makes x a.code a.at a.p a.rules.now e c.requires (omega arith)
