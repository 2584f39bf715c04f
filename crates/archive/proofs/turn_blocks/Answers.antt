use mathlib.Core.Path.{◌≡◌, subst}
use Prim.Native.Nat.{ℕ, ◌+◌, ◌*◌}
use native.Mathlib.Omega.{arith}
use Rattle.archive.specs.Turn.{Turned}
use Rattle.archive.proofs.Turning.{next_row, block_inside, block_ready, turning_goes_on}
use Rattle.archive.proofs.turn_blocks.Goals as goal

pub turn_block-requires : goal.turn_block-requires
turn_block-requires c = let b = c.loop-block in block_ready c.requires b.invariant (omega arith) (block_inside c.requires b.block c.loop-block-test.true)

pub loop-block-preserved : goal.loop-block-preserved
loop-block-preserved c =
    let a = c.args in
    let b = c.loop-block in
    let e : a.first + b.block * a.width + a.width ≡ a.first + (b.block + 1) * a.width = let n = next_row b.block a.width in omega arith in
    let up_to : ℕ → Type 0 = λ column. Turned a.rows a.columns a.first column a.source.now a.target.now c.turn_block.new.target in
    subst up_to e (turning_goes_on c.requires b.invariant (omega arith) (block_inside c.requires b.block c.loop-block-test.true) c.turn_block.ensures)
