use native.Mathlib.Omega.{arith}
use Rattle.letters.proofs.Progress.{few, begins, goes_on, ends}
use Rattle.letters.proofs.number_letters.Goals as goal

pub loop-b-init : goal.loop-b-init
loop-b-init c = begins c.args.text.now c.requires

pub number_byte-from-requires : goal.number_byte-from-requires
number_byte-from-requires c = few c.loop-b.invariant

pub loop-b-preserved : goal.loop-b-preserved
loop-b-preserved c = goes_on _ _ _ _ _ _ (omega arith) c.loop-b.invariant c.number_byte-from.ensures

pub returns : goal.returns
returns c = ends _ _ _ _ _ (omega arith) c.loop-b.invariant
