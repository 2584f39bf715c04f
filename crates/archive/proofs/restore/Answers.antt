use Prim.Native.Nat.{◌+◌}
use Rattle.archive.specs.Layout.{by_variable, by_position}
use Rattle.archive.proofs.Moving.{restores, moves_by}
use Rattle.archive.proofs.restore.Goals as goal

pub returns : goal.returns
returns c =
    let k = c.turn_table in
    let a = c.args in
    let v = a.variables in
    let n = a.length in
    moves_by by_position by_variable v n (n + 1) v a.stored.now a.table.now k.new.target k.result
    (restores v n a.stored.now a.table.now) k.ensures
