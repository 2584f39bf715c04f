-- Demand 1 for the exported calls for storing and restoring, of any number that meets their contracts. Assumes nothing.
use mathlib.Core.List.{List}
use mathlib.Core.Logic.{◌≢◌, ◌↔◌}
use mathlib.Core.Path.{◌≡◌}
use Prim.Native.Nat.{ℕ, ◌+◌}
use native.Mathlib.Omega.{arith}
use lib.ListN.{length}
use Rattle.grammar.specs.Refusal.{refused}
use Rattle.schema.specs.Exported.{Fits}
use Rattle.archive.specs.Archive.{Stored, told, MovePromise}
use Rattle.archive.specs.Layout.{Layout}
use Rattle.archive.specs.Refusals.{ArchiveRefuses}
use Rattle.archive.proofs.Promised as promised
use Rattle.reports.proofs.Fitting.{fits_each}
use Rattle.entryreader.specs.Archived.{StoredNumbers}
use Rattle.entryreader.proofs.Demand1.{returned_refused, returned_answered, refused_then}

-- From one layout to another: by variable and then by position for `entryreader_store`, the other way about for `entryreader_restore`.
module _ (from to : Layout) (v n : ℕ) (source target target' : List ℕ) where
  -- The number of a refusal fits 32 bits.
  pub stored_fits : (r : Stored) → MovePromise from to v n source target target' r → Fits (λ _. 0) (told r)
  stored_fits r promise =
      fits_each (λ _. 0) (told r) (λ x l e. let k = promised.number_small from to v n source target target' r promise x l e in omega arith) (λ a e. omega arith)

  module _ (r : ℕ) (numbers : StoredNumbers (MovePromise from to v n source target target') r) where
    exactly : (x l : ℕ) → (told numbers.found ≡ refused x l) ↔ ArchiveRefuses v n (length source) (length target) x l
    exactly = promised.refused_exactly from to v n source target target' numbers.found numbers.promise

    -- 100 plus x exactly under the condition of x,
    pub stored_refused : (x : ℕ) → (r ≡ 100 + x) ↔ ((l : ℕ) × ArchiveRefuses v n (length source) (length target) x l)
    stored_refused = returned_refused (told numbers.found) (ArchiveRefuses v n (length source) (length target)) exactly numbers.returns

    -- 0 else,
    pub stored_answered : (r ≡ 0) ↔ ((x l : ℕ) → ¬ ArchiveRefuses v n (length source) (length target) x l)
    stored_answered = returned_answered (told numbers.found) (ArchiveRefuses v n (length source) (length target)) exactly numbers.returns

    -- and under a refusal the target is as it was.
    pub stored_unchanged : r ≢ 0 → target' ≡ target
    stored_unchanged d =
        let e = refused_then (told numbers.found) numbers.returns d in
        promised.then_unchanged from to v n source target target' numbers.found numbers.promise e.0 e.1 e.2
