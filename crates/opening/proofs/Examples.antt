-- Three sheets and five entries, of any result that meets the contract: the outcomes of entries and openings are computed. Assumes nothing.
use mathlib.Core.Bool.{false, true≢false}
use mathlib.Core.List.{List, [], ◌∷◌}
use mathlib.Core.Logic.{◌≢◌}
use mathlib.Core.Option.{none, some}
use mathlib.Core.Path.{◌≡◌, refl, sym, subst}
use Prim.Native.Nat.{ℕ, zero, suc, ◌*◌, ◌≤◌, ◌<◌}
use native.Mathlib.Decide.{ℕ_discrete}
use native.Mathlib.Omega.{arith}
use lib.Dec.{ltb}
use lib.ListN.{length, take}
use borrow.Author.Tests.{le-ltb}
use Rattle.calls.proofs.Count.{sum}
use Rattle.calls.proofs.Numbered.{numbered}
use Rattle.calls.proofs.Table.{put, fresh, count_fresh}
use Rattle.calls.proofs.Walk.{walk, ask}
use Rattle.columns.specs.Column.{leading, column, row, digits_after, number, field, fields}
use Rattle.std.specs.Prelude.{Result, Option as Maybe}
use Rattle.grammar.specs.declared.refusal.Refusal.{Refusal}
use Rattle.grammar.specs.Refusal.{accepted, checked}
use Rattle.grammar.specs.Rule.{rule_of}
use Rattle.grammar.specs.Sheet.{grammar_of, sheet, line_at, rule_within, open_line, not_lines, header_out, variable_out, condition, rule_order, sheet_order}
use Rattle.grammar.specs.Printing.{text}
use Rattle.schema.specs.Cases.{header}
use Rattle.schema.specs.Derivation.{Pair, ◌at◌, success, failure, Outcome, result, loop, act_of, Has, Loops}
use Rattle.schema.specs.Handed.{handed, verdict_of}
use Rattle.schema.specs.Table.{cells}
use Rattle.schema.proofs.Laws.{has_one}
use Rattle.schema.proofs.SheetClosed.{sheet_closed, start_within}
use Rattle.schema.proofs.System.{gts}
use Rattle.schema.proofs.Tested.{verdict_by}
use Rattle.schema.proofs.Walk.{walked, outcome_in, walk_has}
use Rattle.opening.specs.Opening.{told, OpeningPromise}
use Rattle.opening.proofs.Promised.{least_exactly, none_exactly}

module _ (s : List ℕ) (reads : sheet s ≡ accepted (grammar_of s)) where
  abbrev start : Pair
  start = (grammar_of s).start at 0

  -- The outcome that is computed.
  abbrev outcome_on : List ℕ → Outcome
  outcome_on input = outcome_in (walked (grammar_of s).rule input (grammar_of s).variables ((grammar_of s).start at 0))

  has : (input : List ℕ) (o : Outcome) → outcome_on input ≡ o → Has (grammar_of s).rule input start o
  has input o e =
      subst (Has (grammar_of s).rule input start) e
      (walk_has (grammar_of s).rule input (grammar_of s).variables (sheet_closed s (grammar_of s) reads) start (start_within s (grammar_of s) reads))

  not_loop : (input : List ℕ) (o : Outcome) → outcome_on input ≡ o → o ≢ loop → Loops (grammar_of s).rule input start → ⊥
  not_loop input o e d h = d (has_one (grammar_of s).rule input start o loop (has input o e) h)

  -- Accepted with slices that are long enough.
  accepted_with : (input : List ℕ) (table work : ℕ) → ltb 4096 (length input) ≡ false
      → 2 * cells (grammar_of s).variables (length input) ≤ table → cells (grammar_of s).variables (length input) ≤ work
      → handed s (verdict_of input table work) ≡ accepted (grammar_of s)
  accepted_with input table work short t w =
      verdict_by s input (grammar_of s) table work false false reads short (rw (le-ltb table _ t, le-ltb work _ w))

-- ---- Case g: "Rule 1 = 1(1,1), empty entry".

abbrev sheet_g : List ℕ
sheet_g = text (header 1 ∷ (1 ∷ 4 ∷ 1 ∷ 1 ∷ 1 ∷ []) ∷ [])

reads_g : sheet sheet_g ≡ accepted (grammar_of sheet_g)
unfolding text leading column row digits_after number field fields line_at open_line not_lines header_out variable_out condition rule_order sheet_order rule_of rule_within checked sheet
reads_g = refl

outcome_g : outcome_on sheet_g reads_g [] ≡ loop
unfolding text leading column row digits_after number field fields line_at rule_of rule_within act_of gts numbered sum put fresh count_fresh ℕ_discrete walk ask walked
outcome_g = refl

cells_g : cells (grammar_of sheet_g).variables 0 ≡ 1
unfolding text leading column row digits_after number field fields line_at
cells_g = refl

-- The empty opening loops.
pub case_g : (table table' work work' : List ℕ) (r : Result (Maybe ℕ) Refusal) → 2 ≤ length table → 1 ≤ length work
    → OpeningPromise (text (header 1 ∷ (1 ∷ 4 ∷ 1 ∷ 1 ∷ 1 ∷ []) ∷ [])) [] table table' work work' r → told r ≡ accepted (some 0)
case_g table table' work work' r t w promise =
    (least_exactly sheet_g [] table work table' work' r promise (grammar_of sheet_g)
    (accepted_with sheet_g reads_g [] (length table) (length work) refl (rw cells_g t) (rw cells_g w)) 0).1 (
      has sheet_g reads_g [] loop outcome_g,
      record { inside = omega arith; loops = has sheet_g reads_g [] loop outcome_g; none_shorter = λ j l. absurd (omega arith) },
    )

-- ---- A loop behind a byte: 1 = 2(1,3), 2 = `6`, 3 = 4(5,6), 4 = `-`, 5 = 5(5,5), 6 fails; the entry is `66-.`, or `66.`, which has no such byte.

abbrev sheet_b : List ℕ
sheet_b =
    text (header 6 ∷ (1 ∷ 4 ∷ 2 ∷ 1 ∷ 3 ∷ []) ∷ (2 ∷ 2 ∷ 54 ∷ 0 ∷ 0 ∷ []) ∷ (3 ∷ 4 ∷ 4 ∷ 5 ∷ 6 ∷ []) ∷ (4 ∷ 2 ∷ 45 ∷ 0 ∷ 0 ∷ []) ∷ (5 ∷ 4 ∷ 5 ∷ 5 ∷ 5 ∷ []) ∷ (6 ∷ 1 ∷ 0 ∷ 0 ∷ 0 ∷ []) ∷ [])

abbrev entry_b : List ℕ
entry_b = 54 ∷ 54 ∷ 45 ∷ 46 ∷ []

abbrev entry_c : List ℕ
entry_c = 54 ∷ 54 ∷ 46 ∷ []

reads_b : sheet sheet_b ≡ accepted (grammar_of sheet_b)
unfolding text leading column row digits_after number field fields line_at open_line not_lines header_out variable_out condition rule_order sheet_order rule_of rule_within checked sheet
reads_b = refl

record Outcomes : Type 0 where
  zero : outcome_on sheet_b reads_b [] ≡ result failure
  one : outcome_on sheet_b reads_b (54 ∷ []) ≡ result failure
  two : outcome_on sheet_b reads_b (54 ∷ 54 ∷ []) ≡ result failure
  three : outcome_on sheet_b reads_b (54 ∷ 54 ∷ 45 ∷ []) ≡ loop
  whole : outcome_on sheet_b reads_b entry_b ≡ loop
  other : outcome_on sheet_b reads_b entry_c ≡ result failure

outcomes_b : Outcomes
unfolding text leading column row digits_after number field fields line_at rule_of rule_within act_of gts numbered sum put fresh count_fresh ℕ_discrete walk ask walked
outcomes_b = record { zero = refl; one = refl; two = refl; three = refl; whole = refl; other = refl }

cells_b : (cells (grammar_of sheet_b).variables 4 ≡ 30) × (cells (grammar_of sheet_b).variables 3 ≡ 24)
unfolding text leading column row digits_after number field fields line_at
cells_b = (refl, refl)

failure_apart : result failure ≢ loop
failure_apart e = true≢false (cc)

none_shorter_b : (j : ℕ) → j < 3 → Loops (grammar_of sheet_b).rule (take j entry_b) (start sheet_b reads_b) → ⊥
none_shorter_b zero l = not_loop sheet_b reads_b [] (result failure) outcomes_b.zero failure_apart
none_shorter_b (suc zero) l = not_loop sheet_b reads_b (54 ∷ []) (result failure) outcomes_b.one failure_apart
none_shorter_b (suc (suc zero)) l = not_loop sheet_b reads_b (54 ∷ 54 ∷ []) (result failure) outcomes_b.two failure_apart
none_shorter_b (suc (suc (suc j))) l = absurd (omega arith)

-- The three bytes that lead to the loop.
pub case_behind : (table table' work work' : List ℕ) (r : Result (Maybe ℕ) Refusal) → 60 ≤ length table → 30 ≤ length work
    → OpeningPromise sheet_b entry_b table table' work work' r → told r ≡ accepted (some 3)
case_behind table table' work work' r t w promise =
    (least_exactly sheet_b entry_b table work table' work' r promise (grammar_of sheet_b)
    (accepted_with sheet_b reads_b entry_b (length table) (length work) refl (rw cells_b.0 t) (rw cells_b.0 w)) 3).1 (
      has sheet_b reads_b entry_b loop outcomes_b.whole,
      record { inside = omega arith; loops = has sheet_b reads_b (54 ∷ 54 ∷ 45 ∷ []) loop outcomes_b.three; none_shorter = none_shorter_b },
    )

-- Without the third of them there is no loop, and no opening.
pub case_none : (table table' work work' : List ℕ) (r : Result (Maybe ℕ) Refusal) → 48 ≤ length table → 24 ≤ length work
    → OpeningPromise sheet_b entry_c table table' work work' r → told r ≡ accepted none
case_none table table' work work' r t w promise =
    (none_exactly sheet_b entry_c table work table' work' r promise (grammar_of sheet_b)
    (accepted_with sheet_b reads_b entry_c (length table) (length work) refl (rw cells_b.1 t) (rw cells_b.1 w))).1
    (not_loop sheet_b reads_b entry_c (result failure) outcomes_b.other failure_apart)

-- ---- Order 11: "other verdicts get none, though an opening of theirs may loop". 1 = 2(3,1), 2 = `a`, 3 = 4(5,6), 4 = `b`, 5 = 5(5,5), 6 succeeds.

abbrev sheet_l : List ℕ
sheet_l =
    text (header 6 ∷ (1 ∷ 4 ∷ 2 ∷ 3 ∷ 1 ∷ []) ∷ (2 ∷ 2 ∷ 97 ∷ 0 ∷ 0 ∷ []) ∷ (3 ∷ 4 ∷ 4 ∷ 5 ∷ 6 ∷ []) ∷ (4 ∷ 2 ∷ 98 ∷ 0 ∷ 0 ∷ []) ∷ (5 ∷ 4 ∷ 5 ∷ 5 ∷ 5 ∷ []) ∷ (6 ∷ 0 ∷ 0 ∷ 0 ∷ 0 ∷ []) ∷ [])

reads_l : sheet sheet_l ≡ accepted (grammar_of sheet_l)
unfolding text leading column row digits_after number field fields line_at open_line not_lines header_out variable_out condition rule_order sheet_order rule_of rule_within checked sheet
reads_l = refl

record Letters : Type 0 where
  empty : outcome_on sheet_l reads_l [] ≡ loop
  a : outcome_on sheet_l reads_l (97 ∷ []) ≡ result (success 1)
  ab : outcome_on sheet_l reads_l (97 ∷ 98 ∷ []) ≡ loop

outcomes_l : Letters
unfolding text leading column row digits_after number field fields line_at rule_of rule_within act_of gts numbered sum put fresh count_fresh ℕ_discrete walk ask walked
outcomes_l = record { empty = refl; a = refl; ab = refl }

cells_l : (cells (grammar_of sheet_l).variables 1 ≡ 12) × (cells (grammar_of sheet_l).variables 2 ≡ 18)
unfolding text leading column row digits_after number field fields line_at
cells_l = (refl, refl)

start_l : start sheet_l reads_l ≡ 1 at 0
unfolding text leading column row digits_after number field fields line_at
start_l = refl

empty_loops : Loops (grammar_of sheet_l).rule [] (start sheet_l reads_l)
empty_loops = has sheet_l reads_l [] loop outcomes_l.empty

a_ends : Loops (grammar_of sheet_l).rule (97 ∷ []) (start sheet_l reads_l) → ⊥
a_ends = not_loop sheet_l reads_l (97 ∷ []) (result (success 1)) outcomes_l.a (λ e. true≢false (cc))

-- `a` is recognised, so it gets none, though its opening of 0 bytes loops.
pub case_a : (table table' work work' : List ℕ) (r : Result (Maybe ℕ) Refusal) → 24 ≤ length table → 12 ≤ length work
    → OpeningPromise sheet_l (97 ∷ []) table table' work work' r → (told r ≡ accepted none) × Loops (grammar_of sheet_l).rule (take 0 (97 ∷ [])) (1 at 0)
case_a table table' work work' r t w promise = (
  (none_exactly sheet_l (97 ∷ []) table work table' work' r promise (grammar_of sheet_l)
      (accepted_with sheet_l reads_l (97 ∷ []) (length table) (length work) refl (rw cells_l.0 t) (rw cells_l.0 w))).1 a_ends,
  subst (Loops (grammar_of sheet_l).rule []) start_l empty_loops,
)

-- `ab` loops, and m is 0, though its opening `a` does not.
pub case_ab : (table table' work work' : List ℕ) (r : Result (Maybe ℕ) Refusal) → 36 ≤ length table → 18 ≤ length work → OpeningPromise sheet_l (97 ∷ 98 ∷ []) table table' work work' r
    → (told r ≡ accepted (some 0)) × (Loops (grammar_of sheet_l).rule (take 1 (97 ∷ 98 ∷ [])) (1 at 0) → ⊥)
case_ab table table' work work' r t w promise = (
  (least_exactly sheet_l (97 ∷ 98 ∷ []) table work table' work' r promise (grammar_of sheet_l)
      (accepted_with sheet_l reads_l (97 ∷ 98 ∷ []) (length table) (length work) refl (rw cells_l.1 t) (rw cells_l.1 w)) 0).1 (
        has sheet_l reads_l (97 ∷ 98 ∷ []) loop outcomes_l.ab,
        record { inside = omega arith; loops = empty_loops; none_shorter = λ j l. absurd (omega arith) },
      ),
  λ l. a_ends (subst (Loops (grammar_of sheet_l).rule (97 ∷ [])) (sym start_l) l),
)
