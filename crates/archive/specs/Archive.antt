-- Document 02, order 9, "Tables stored by place": what storing and restoring promise. Assumes nothing.
use Rattle.std.specs.Prelude.{List, Result, ◌≡◌, ℕ, ◌*◌, length, drop}
use Rattle.grammar.specs.Numbers.{checked_as}
use Rattle.grammar.specs.Refusal.{Checked, refused, accepted}
use Rattle.grammar.specs.declared.refusal.Refusal.{Refusal}
use Rattle.schema.specs.Cells.{cell_at}
use Rattle.schema.specs.Derivation.{◌at◌}
use Rattle.schema.specs.Table.{Within, cells}
use Rattle.archive.specs.Layout.{Layout, by_variable, by_position, cell_in}
use Rattle.archive.specs.Refusals.{movable}

-- What storing and restoring answer: that it is done, or a refusal.
abbrev pub Stored : Type 0
Stored = Result (Unit {0}) Refusal

-- What an answer says: nothing but that it is done, or the number and the line of its refusal.
abbrev pub told : Stored → Checked (Unit {0})
told = checked_as (λ _. tt)

-- The cells of v variables on n bytes are moved "from one lent table to another": each table has its layout.
pub record Moved (from to : Layout) (v n : ℕ) (source target target' : List ℕ) : Type 0 where
  -- "the cell of pair (A, p), both its numbers"
  pub moves : (A p : ℕ) → Within v n A p → cell_at target' (cell_in to v n (A at p)) ≡ cell_at source (cell_in from v n (A at p))
  -- "later cells of the target are unchanged"
  pub later : drop (2 * cells v n) target' ≡ drop (2 * cells v n) target
  pub size : length target' ≡ length target

-- The first refusal, with the target as it was; or it is done, and something is so.
abbrev pub Unless : Checked (Unit {0}) → Type 0 → List ℕ → List ℕ → Checked (Unit {0}) → Type 0
Unless (refused number line) So target target' r = (r ≡ refused number line) × (target' ≡ target)
Unless (accepted u) So target target' r = (r ≡ accepted tt) × So

-- The promise of a call that moves cells.
abbrev pub MovePromise : Layout → Layout → ℕ → ℕ → List ℕ → List ℕ → List ℕ → Stored → Type 0
MovePromise from to v n source target target' r =
    Unless (movable v n (length source) (length target)) (Moved from to v n source target target') target target' (told r)

-- "The archive stores finished tables place by place"
abbrev pub StorePromise : ℕ → ℕ → List ℕ → List ℕ → List ℕ → Stored → Type 0
StorePromise v n table stored stored' r = MovePromise by_variable by_position v n table stored stored' r

-- "and back"
abbrev pub RestorePromise : ℕ → ℕ → List ℕ → List ℕ → List ℕ → Stored → Type 0
RestorePromise v n stored table table' r = MovePromise by_position by_variable v n stored table table' r
