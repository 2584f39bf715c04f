-- What the exported calls for storing and restoring hand over. Assumes nothing.
use Rattle.std.specs.Prelude.{List, ◌≡◌, ℕ}
use Rattle.schema.specs.Exported.{returned}
use Rattle.archive.specs.Archive.{Stored, told, StorePromise, RestorePromise}

-- The promise of such a call, with 0, or 100 plus the refusal's number. It has no other answer.
pub record StoredNumbers (Promise : Stored → Type 0) (r : ℕ) : Type 0 where
  pub found : Stored
  pub promise : Promise found
  pub returns : r ≡ returned (told found)

abbrev pub StoreNumbers : ℕ → ℕ → List ℕ → List ℕ → List ℕ → ℕ → Type 0
StoreNumbers v n table stored stored' r = StoredNumbers (StorePromise v n table stored stored') r

abbrev pub RestoreNumbers : ℕ → ℕ → List ℕ → List ℕ → List ℕ → ℕ → Type 0
RestoreNumbers v n stored table table' r = StoredNumbers (RestorePromise v n stored table table') r
