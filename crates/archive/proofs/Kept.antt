-- Document 02, order 8, of a table that was stored and restored: if it was kept, it is kept again. Assumes nothing.
use mathlib.Core.List.{List}
use mathlib.Core.Path.{◌≡◌, sym, ap, ◌∙◌, subst}
use Prim.Native.Nat.{ℕ, ◌*◌, ◌≤◌}
use lib.ListN.{length}
use Rattle.grammar.specs.Rule.{Rule}
use Rattle.schema.specs.Cells.{cell_at}
use Rattle.schema.specs.Closed.{Closed}
use Rattle.schema.specs.Derivation.{◌at◌}
use Rattle.schema.specs.Table.{cell, cells}
use Rattle.schema.proofs.Cell.{cell_below}
use Rattle.kept.specs.Kept.{KeptTable}
use Rattle.kept.proofs.FirstCells.{joined, joined_cell, joined_length, kept_first}
use Rattle.archive.specs.Layout.{by_variable, by_position}
use Rattle.archive.specs.StoredTable.{RoundTrip}
use Rattle.archive.proofs.Promised.{then_clear, stored_table}

module _ {v n : ℕ} {table restored : List ℕ} (trip : RoundTrip v n table restored) where
  -- There are all cells in the table that was stored,
  stored_room : 2 * cells v n ≤ length table
  stored_room = (then_clear by_variable by_position v n table trip.target trip.stored trip.one trip.stores trip.done).source_room

  -- and they are the first ones of the table that is restored, behind which stands what stood there.
  restored_is : restored ≡ joined (2 * cells v n) table trip.again
  restored_is =
      ((stored_table v n).restored by_variable by_position table trip.target trip.stored trip.one trip.stores trip.done
      trip.again restored trip.other trip.room trip.restores).1

  pub restored_length : length restored ≡ length trip.again
  restored_length = ap length restored_is ∙ joined_length (2 * cells v n) table trip.again stored_room trip.room

-- A table with the first cells of a kept one is kept, by `kept_first`.
pub restored_kept : (rule : ℕ → Rule) (v : ℕ) → Closed v rule → (s table restored : List ℕ) → KeptTable rule v s table
    → RoundTrip v (length s) table restored → KeptTable rule v s restored
restored_kept rule v closed s table restored kept trip =
    let n = length s in
    kept_first rule v closed kept restored (stored_room trip) (subst (λ (k : ℕ). 2 * cells v n ≤ k) (sym (restored_length trip)) trip.room)
    (λ A p w. let i = cell n (A at p) in
    ap (λ (T : List ℕ). cell_at T i) (restored_is trip) ∙ joined_cell (cells v n) table trip.again (stored_room trip) i (cell_below v n (A at p) w))
