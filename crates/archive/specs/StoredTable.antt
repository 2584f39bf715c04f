-- Document 02, order 9, "Tables stored by place", sentence by sentence, of any results that meet the contracts of the calls. Assumes nothing.
use Rattle.std.specs.Prelude.{List, [], ◌∷◌, ◌++◌, map, ◌≡◌, ℕ, ◌*◌, ◌≤◌, min, eqb, length, take, drop}
use Rattle.grammar.specs.Refusal.{accepted}
use Rattle.schema.specs.Table.{cells}
use Rattle.archive.specs.Archive.{Stored, told, MovePromise, StorePromise, RestorePromise}
use Rattle.archive.specs.Layout.{Layout}
use Rattle.archive.specs.Tally.{kinds, tally, total}

-- Of v variables on n bytes. From one layout to the other is storing, and back is restoring; or the other way about.
pub record StoredTable (v n : ℕ) : Type 0 where
  -- There is one result.
  pub one_result : (from to : Layout) (source target target' target'' : List ℕ) (r q : Stored) → MovePromise from to v n source target target' r
      → MovePromise from to v n source target target'' q → (told r ≡ told q) × (target' ≡ target'')
  -- "Returning a stored table restores every cell, and later cells of the target are unchanged.": whatever stands in a target that is long enough, the way
  -- back is not refused, and leaves the first cells of the source there, both numbers of each.
  pub restored : (from to : Layout) (source target target' : List ℕ) (r : Stored) → MovePromise from to v n source target target' r → told r ≡ accepted tt
      → (again again' : List ℕ) (q : Stored) → 2 * cells v n ≤ length again → MovePromise to from v n target' again again' q
      → (told q ≡ accepted tt) × (again' ≡ take (2 * cells v n) source ++ drop (2 * cells v n) again)
  -- "The counts of cells with outcome 0, 1, 2, 3, 4, and 5 or more, taken in stored order, must equal those taken by variable."
  pub tally_same : (from to : Layout) (source target target' : List ℕ) (r : Stored) → MovePromise from to v n source target target' r → told r ≡ accepted tt
      → tally (cells v n) target' ≡ tally (cells v n) source

-- The counts of the first N cells of any table.
pub record TallyWhole (N : ℕ) (T : List ℕ) : Type 0 where
  -- Each cell is counted once,
  pub once : total (tally N T) ≡ N
  -- and in its own kind: the one of its outcome, where 5 stands for 5 or more.
  pub own_kind : (o : ℕ) → map (λ kind. kind o) kinds ≡ map (λ k. eqb (min o 5) k) (0 ∷ 1 ∷ 2 ∷ 3 ∷ 4 ∷ 5 ∷ [])

-- A table that a call left is stored and then restored; what stood in the two targets before is anything.
pub record RoundTrip (v n : ℕ) (table restored : List ℕ) : Type 0 where
  pub target : List ℕ
  pub stored : List ℕ
  pub again : List ℕ
  pub one : Stored
  pub other : Stored
  pub stores : StorePromise v n table target stored one
  pub done : told one ≡ accepted tt
  pub room : 2 * cells v n ≤ length again
  pub restores : RestorePromise v n stored again restored other
