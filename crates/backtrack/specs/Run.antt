-- Document 01, "The backtracking machine": its call. Assumes nothing.
use Rattle.std.specs.Prelude.{List, ◌≡◌, ℕ, ◌/◌, Result, Ok, Err, length}
use Rattle.grammar.specs.Numbers.{number_of, line_of}
use Rattle.grammar.specs.Refusal.{Checked, refused, accepted}
use Rattle.grammar.specs.Rule.{Rule}
use Rattle.grammar.specs.Sheet.{Grammar}
use Rattle.grammar.specs.declared.refusal.Refusal.{Refusal}
use Rattle.schema.specs.Derivation.{Pair, success, failure, missing, result, stopped}
use Rattle.schema.specs.Handed.{asked, handed}
use Rattle.schema.specs.Machine.{says, spent, no_frame, Ran, ran, machine}
use Rattle.backtrack.specs.declared.Ending.{Ending}
use Rattle.backtrack.specs.declared.Ending.TheVariants.{Success, Failure, Missing, Spent, NoFrame}

-- What each ending stands for: "the outcome, the end on success, and the moves".
abbrev pub ending_says : Ending → Ran
ending_says (Success q moves) = ran (says (result (success q))) moves
ending_says (Failure moves) = ran (says (result failure)) moves
ending_says (Missing moves) = ran (says (stopped missing)) moves
ending_says (Spent moves) = ran spent moves
ending_says (NoFrame moves) = ran no_frame moves

-- What the answer says: the ending, or the refusal's number and line.
abbrev pub told : Result Ending Refusal → Checked Ran
told (Ok e) = accepted (ending_says e)
told (Err e) = refused (number_of e) (line_of e)

-- "its length divided by 3, rounded down, is the room, and its contents afterwards are free": the run with these rules on the pair x,
-- the slice holding frames before it and frames' after it.
pub record RunsTo (rule : ℕ → Rule) (input : List ℕ) (x : Pair) (frames frames' : List ℕ) (budget : ℕ) (r : Result Ending Refusal) : Type 0 where
  pub answer : told r ≡ accepted (machine rule input x budget (length frames / 3))
  pub size : length frames' ≡ length frames

-- What comes of a sheet that is refused or accepted: "A refusal returns its number and a line";
-- "table, work slice, frames and output keep their contents".
abbrev pub Comes : Checked Grammar → List ℕ → Pair → List ℕ → List ℕ → ℕ → Result Ending Refusal → Type 0
Comes (refused number line) input x frames frames' budget r = (told r ≡ refused number line) × (frames' ≡ frames)
Comes (accepted g) input x frames frames' budget r = RunsTo g.rule input x frames frames' budget r

-- The promise of a run.
abbrev pub Runs : List ℕ → List ℕ → Pair → List ℕ → List ℕ → ℕ → Result Ending Refusal → Type 0
Runs sheet input x frames frames' budget r = Comes (handed sheet (asked input x)) input x frames frames' budget r
