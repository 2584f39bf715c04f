use Prim.Native.Nat.{◌+◌}
use Rattle.archive.specs.Layout.{by_variable, by_position}
use Rattle.archive.proofs.Moving.{stores, moves_by}
use Rattle.archive.proofs.store.Goals as goal

pub returns : goal.returns
returns c =
    let k = c.turn_table in
    let a = c.args in
    let v = a.variables in
    let n = a.length in
    moves_by by_variable by_position v n v (n + 1) a.table.now a.stored.now k.new.target k.result
    (stores v n a.table.now a.stored.now) k.ensures
