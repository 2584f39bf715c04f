-- The numbers that the exported call of the machine hands over. Assumes nothing.
use Rattle.std.specs.Prelude.{List, [], ◌∷◌, ◌≡◌, ℕ, Result}
use Rattle.grammar.specs.declared.refusal.Refusal.{Refusal}
use Rattle.schema.specs.Derivation.{◌at◌, success, failure, Outcome, result, stopped, loop}
use Rattle.schema.specs.Exported.{returned, reported}
use Rattle.schema.specs.Machine.{RunOutcome, says, spent, no_frame, Ran, ran}
use Rattle.schema.specs.Table.{code}
use Rattle.backtrack.specs.Run.{told as ended, Runs}
use Rattle.backtrack.specs.declared.Ending.{Ending}

-- The code of an outcome is that of a cell; 10,000 for spent and 10,001 for no frame, above the code of every success (5 + 4,096).
abbrev pub run_code : RunOutcome → ℕ
run_code (says o) = code o
run_code spent = 10000
run_code no_frame = 10001

-- Where a success ends, else 0.
abbrev pub outcome_end : Outcome → ℕ
outcome_end (result (success q)) = q
outcome_end (result failure) = 0
outcome_end (stopped w) = 0
outcome_end loop = 0

-- "the end on success", else 0, of a run.
abbrev pub run_end : RunOutcome → ℕ
run_end (says o) = outcome_end o
run_end spent = 0
run_end no_frame = 0

-- The code of what a run ends with.
abbrev pub ran_code : Ran → ℕ
ran_code (ran o moves) = run_code o

-- "the outcome, the end on success, and the moves"
abbrev pub run_numbers : Ran → List ℕ
run_numbers (ran o moves) = run_code o ∷ run_end o ∷ moves ∷ []

-- The call's promise: that of the machine's run, with its ending in these numbers.
pub record RunNumbers (sheet input : List ℕ) (A p : ℕ) (frames frames' : List ℕ) (budget : ℕ) (answer answer' : List ℕ) (r : ℕ) : Type 0 where
  pub found : Result Ending Refusal
  pub promise : Runs sheet input (A at p) frames frames' budget found
  pub returns : r ≡ returned (ended found)
  pub reports : answer' ≡ reported run_numbers answer (ended found)
