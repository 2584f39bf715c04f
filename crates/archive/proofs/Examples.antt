-- Document 01's case a, stored and restored: of its 24 cells five are decided. Assumes nothing.
use mathlib.Core.Bool.{Bool, false, not, ◌||◌}
use mathlib.Core.List.{List, [], ◌∷◌, ◌++◌}
use mathlib.Core.Path.{◌≡◌, refl, sym, ap₂, ◌∙◌}
use Prim.Native.Nat.{ℕ, ◌+◌, ◌-◌, ◌*◌, ◌≤◌, ◌<◌}
use native.Mathlib.Omega.{arith}
use lib.Dec.{eqb}
use lib.ListN.{length}
use borrow.Author.Tests.{eqb-true, not-false}
use Rattle.grammar.specs.Refusal.{accepted, checked}
use Rattle.grammar.proofs.Fitting.{neither_true}
use Rattle.schema.specs.Cells.{held_at, reach_at, cell_at}
use Rattle.schema.specs.Derivation.{◌at◌}
use Rattle.kept.specs.Some.{some}
use Rattle.kept.proofs.Some.{some_each}
use Rattle.std.specs.Prelude.{Ok}
use Rattle.archive.specs.Archive.{Stored, told, Moved, StorePromise}
use Rattle.archive.specs.Layout.{by_variable, by_position, cell_in}
use Rattle.archive.specs.Refusals.{archive_condition, movable}
use Rattle.archive.specs.StoredTable.{RoundTrip}
use Rattle.archive.specs.Tally.{outcomes, tally}
use Rattle.archive.proofs.Promised.{done_where, then_moved, stored_table}

-- H, `-6.`: a row of four cells for each of the six variables, each cell an outcome and its reach.
abbrev table_a : List ℕ
table_a =
    (8 ∷ 3 ∷ 0 ∷ 0 ∷ 0 ∷ 0 ∷ 0 ∷ 0 ∷ [])
    ++ (6 ∷ 1 ∷ 0 ∷ 0 ∷ 0 ∷ 0 ∷ 0 ∷ 0 ∷ [])
    ++ (0 ∷ 0 ∷ 8 ∷ 3 ∷ 0 ∷ 0 ∷ 0 ∷ 0 ∷ [])
    ++ (0 ∷ 0 ∷ 7 ∷ 2 ∷ 0 ∷ 0 ∷ 0 ∷ 0 ∷ [])
    ++ (0 ∷ 0 ∷ 0 ∷ 0 ∷ 8 ∷ 3 ∷ 0 ∷ 0 ∷ [])
    ++ (0 ∷ 0 ∷ 0 ∷ 0 ∷ 0 ∷ 0 ∷ 0 ∷ 0 ∷ [])

-- The same stored: a row of six cells for each of the four positions.
abbrev stored_a : List ℕ
stored_a =
    (8 ∷ 3 ∷ 6 ∷ 1 ∷ 0 ∷ 0 ∷ 0 ∷ 0 ∷ 0 ∷ 0 ∷ 0 ∷ 0 ∷ [])
    ++ (0 ∷ 0 ∷ 0 ∷ 0 ∷ 8 ∷ 3 ∷ 7 ∷ 2 ∷ 0 ∷ 0 ∷ 0 ∷ 0 ∷ [])
    ++ (0 ∷ 0 ∷ 0 ∷ 0 ∷ 0 ∷ 0 ∷ 0 ∷ 0 ∷ 8 ∷ 3 ∷ 0 ∷ 0 ∷ [])
    ++ (0 ∷ 0 ∷ 0 ∷ 0 ∷ 0 ∷ 0 ∷ 0 ∷ 0 ∷ 0 ∷ 0 ∷ 0 ∷ 0 ∷ [])

-- ---- These two are as the promises ask, by one computed test of all pairs.

abbrev differs : ℕ → ℕ → Bool
differs i p = not (eqb (held_at stored_a (p * 6 + i)) (held_at table_a (i * 4 + p))) || not (eqb (reach_at stored_a (p * 6 + i)) (reach_at table_a (i * 4 + p)))

none_differs : some 6 (λ i. some 4 (λ p. differs i p)) ≡ false
unfolding some
none_differs = refl

same_cell : (i p : ℕ) → i < 6 → p < 4 → cell_at stored_a (p * 6 + i) ≡ cell_at table_a (i * 4 + p)
same_cell i p l m =
    let held = eqb (held_at stored_a (p * 6 + i)) (held_at table_a (i * 4 + p)) in
    let reach = eqb (reach_at stored_a (p * 6 + i)) (reach_at table_a (i * 4 + p)) in
    let e = some_each 4 (λ p. differs i p) (some_each 6 (λ i. some 4 (λ p. differs i p)) none_differs i l) p m in
    let b = neither_true (not held) (not reach) e in
    ap₂ {C = ℕ × ℕ} (λ (a b : ℕ). (a, b)) (eqb-true _ _ (not-false held b.0)) (eqb-true _ _ (not-false reach b.1))

storing : Moved by_variable by_position 6 3 table_a stored_a stored_a
storing = record {
  moves = λ A p w. same_cell (A - 1) p (omega (arith, w.variable.0, w.variable.1)) (omega (arith, w.position));
  later = refl;
  size = refl;
}

restoring : Moved by_position by_variable 6 3 stored_a table_a table_a
restoring = record {
  moves = λ A p w. sym (same_cell (A - 1) p (omega (arith, w.variable.0, w.variable.1)) (omega (arith, w.position)));
  later = refl;
  size = refl;
}

-- So there is such a round trip.
pub case_a_trip : RoundTrip 6 3 table_a table_a
unfolding movable checked archive_condition
case_a_trip = record {
  target = stored_a;
  stored = stored_a;
  again = table_a;
  one = Ok tt;
  other = Ok tt;
  stores = (refl, storing);
  done = refl;
  room = omega arith;
  restores = (refl, restoring);
}

-- ---- Any result of storing it has these cells.

module _ (target stored : List ℕ) (r : Stored) (room : 48 ≤ length target) (promise : StorePromise 6 3 table_a target stored r) where
  pub case_a_done : told r ≡ accepted tt
  case_a_done =
      done_where by_variable by_position 6 3 table_a target stored r promise
      (record { some = omega arith; few = omega arith; short = omega arith; source_room = omega arith; target_room = room })

  -- Variables 1 and 2 at 0, 3 and 4 at 1, and 5 at 2.
  pub case_a_cells : (cell_at stored 0 ≡ (8, 3)) × (cell_at stored 1 ≡ (6, 1)) × (cell_at stored 8 ≡ (8, 3)) × (cell_at stored 9 ≡ (7, 2)) × (cell_at stored 16 ≡ (8, 3))
  case_a_cells = (
    cell_of 1 0 (omega arith, omega arith, omega arith),
    cell_of 2 0 (omega arith, omega arith, omega arith),
    cell_of 3 1 (omega arith, omega arith, omega arith),
    cell_of 4 1 (omega arith, omega arith, omega arith),
    cell_of 5 2 (omega arith, omega arith, omega arith),
  )
    where
      cell_of : (A p : ℕ) → (1 ≤ A) × (A ≤ 6) × (p ≤ 3) → cell_at stored (cell_in by_position 6 3 (A at p)) ≡ cell_at table_a (cell_in by_variable 6 3 (A at p))
      cell_of A p w =
          (then_moved by_variable by_position 6 3 table_a target stored r promise case_a_done).moves A p
          (record { variable = (w.0, w.1); position = w.2 })

  -- 19 blank cells, and five successes.
  pub case_a_tally : tally 24 stored ≡ 19 ∷ 0 ∷ 0 ∷ 0 ∷ 0 ∷ 5 ∷ []
  unfolding outcomes
  case_a_tally = (stored_table 6 3).tally_same by_variable by_position table_a target stored r promise case_a_done ∙ refl
