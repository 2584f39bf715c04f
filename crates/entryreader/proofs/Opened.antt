-- Demand 1 for the exported call for the opening that already loops, of any number that meets its contract. Assumes nothing.
use mathlib.Core.List.{List}
use mathlib.Core.Logic.{◌≢◌, ◌↔◌}
use mathlib.Core.Option.{Option}
use mathlib.Core.Path.{◌≡◌}
use Prim.Native.Nat.{ℕ, ◌+◌}
use native.Mathlib.Omega.{arith}
use lib.ListN.{length}
use Rattle.schema.specs.Exported.{Fits}
use Rattle.schema.specs.Handed.{Refuses, verdict_of}
use Rattle.schema.proofs.Following.{Follows}
use Rattle.opening.specs.Opening.{told, OpeningPromise}
use Rattle.std.specs.Prelude.{Result, Option as Maybe}
use Rattle.grammar.specs.declared.refusal.Refusal.{Refusal}
use Rattle.opening.proofs.Promised.{opening_follows, opening_small}
use Rattle.reports.proofs.Fitting.{fits_each}
use Rattle.entryreader.specs.Opened.{opening_numbers, OpeningNumbers}
use Rattle.entryreader.proofs.Demand1.{follows_refused, follows_answered, follows_unchanged}

-- The number of a refusal fits 32 bits.
pub opening_fits : (s input table table' work work' : List ℕ) (r : Result (Maybe ℕ) Refusal) → OpeningPromise s input table table' work work' r → Fits (λ _. 0) (told r)
opening_fits s input table table' work work' r promise =
    fits_each (λ _. 0) (told r) (λ x l e. let k = opening_small s input table work table' work' r promise x l e in omega arith) (λ a e. omega arith)

module _ (s input table table' work work' answer answer' : List ℕ) (r : ℕ) (promise : OpeningNumbers s input table table' work work' answer answer' r) where
  opening_as : Follows (Option ℕ) s (verdict_of input (length table) (length work)) (told promise.found) ((table' ≡ table) × (work' ≡ work))
  opening_as = opening_follows s input table work table' work' promise.found promise.promise

  -- 100 plus x exactly under the condition of x, which is the verdict's,
  pub opening_refused : (x : ℕ) → (r ≡ 100 + x) ↔ ((l : ℕ) × Refuses s (verdict_of input (length table) (length work)) x l)
  opening_refused = follows_refused opening_as promise.returns

  -- 0 else,
  pub opening_answered : (r ≡ 0) ↔ ((x l : ℕ) → ¬ Refuses s (verdict_of input (length table) (length work)) x l)
  opening_answered = follows_answered opening_as promise.returns

  -- and under a refusal table, work slice and answer are as they were.
  pub opening_unchanged : r ≢ 0 → (table' ≡ table) × (work' ≡ work) × (answer' ≡ answer)
  opening_unchanged d = let k = follows_unchanged opening_as promise.returns opening_numbers answer answer' promise.reports d in (k.0.0, k.0.1, k.1)
