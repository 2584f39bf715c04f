-- Document 02, order 10: a correction beside what was promised of it before, when it was not shown the old entry. Assumes nothing.
use Rattle.std.specs.Prelude.{false, List, [], ◌∷◌, ◌≡◌, ℕ, ◌+◌, length, Result}
use Rattle.grammar.specs.Sheet.{Grammar}
use Rattle.schema.specs.Derivation.{◌at◌}
use Rattle.finish.specs.Reply.{told}
use Rattle.grammar.specs.declared.refusal.Refusal.{Refusal}
use Rattle.finish.specs.declared.Answer.{Answer}
use Rattle.kept.specs.Differs.{DiffersAt, differs_elsewhere}
use Rattle.kept.specs.Kept.{retained}
use Rattle.correction.specs.Call.{KeptOf, Replies}
use Rattle.correction.specs.Correction.{CorrectionPromise}
use Rattle.correction.specs.Refusals.{correction_condition, callable}

-- Order 4: "New numbers: 18 .., 19 .., in that order after 10"; without 21.
abbrev pub unshown_order : List (ℕ × ℕ)
unshown_order = (18, 0) ∷ (19, 0) ∷ []

-- Order 8: "a correction from a kept table (for a correction, of an entry that differs at c at most)": of some such entry, which nobody shows.
abbrev pub KeptBefore : List ℕ → ℕ → List ℕ → Grammar → Type 0
KeptBefore input c table g = (old : List ℕ) × DiffersAt c old input × KeptOf old table g

-- The promise without an old input, where `Kept` says that the table was kept. Of the correction's conditions that of 21 is not in the order; the input
-- stands in the old one's place.
abbrev pub UnshownPromise : (Grammar → Type 0) → List ℕ → List ℕ → ℕ → ℕ → ℕ → List ℕ → List ℕ → List ℕ → List ℕ → Result Answer Refusal → Type 0
UnshownPromise Kept sheet input A p c table table' work work' r =
    Replies (callable sheet input (A at p) (length table) (length work) (correction_condition input input c table) unshown_order)
    input (A at p) Kept (retained (c + 1) (length input) table) table table' work work' (told r)

-- Both promises of one result, where the old input that is shown does not come under 21.
pub record BesideUnshown (sheet old input : List ℕ) (A p c : ℕ) (table table' work work' : List ℕ) (r : Result Answer Refusal) : Type 0 where
  -- What met the earlier one meets that of order 10,
  pub meets : differs_elsewhere c old input ≡ false → UnshownPromise (KeptBefore input c table) sheet input A p c table table' work work' r
      → CorrectionPromise sheet old input A p c table table' work work' r
  -- and the other way, where the table was kept of the old input that is shown.
  pub back : differs_elsewhere c old input ≡ false → CorrectionPromise sheet old input A p c table table' work work' r
      → UnshownPromise (KeptOf old table) sheet input A p c table table' work work' r
