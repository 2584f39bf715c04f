-- The numbers that the exported calls hand over. Assumes nothing.
use Rattle.std.specs.Prelude.{cond, List, [], ◌∷◌, ◌≡◌, ℕ, ◌+◌, eqb, length, get_or, Result}
use Rattle.grammar.specs.Refusal.{Checked, refused, accepted}
use Rattle.grammar.specs.Promise.{line_one, stored}
use Rattle.grammar.specs.declared.refusal.Refusal.{Refusal}
use Rattle.grammar.specs.Sheet.{Grammar, sheet}
use Rattle.schema.specs.Derivation.{◌at◌, Outcome, Has}
use Rattle.schema.specs.Exported.{returned, reported}
use Rattle.schema.specs.Handed.{handed, verdict_of}
use Rattle.schema.specs.Verdict.{verdict_code}
use Rattle.finish.specs.Reply.{told}
use Rattle.reports.specs.Numbers.{question_numbers}
use Rattle.memo.specs.Answer.{QuestionPromise}
use Rattle.finish.specs.declared.Answer.{Answer}
use Rattle.verdict.specs.Verdict.{numbers, VerdictPromise}
use Rattle.verdict.specs.declared.Judgement.{Judgement}
use Rattle.correction.specs.Correction.{CorrectionPromise}
use Rattle.correction.specs.Further.{FurtherPromise}
use Rattle.shorthand.specs.Promise.{told as compiles, CompilePromise}

-- ---- The sheet.

-- The four numbers of its answer: 0 and line 1 of the sheet, V, start and endmarker; or the number and the line of a refusal.
abbrev pub sheet_numbers : Checked (List ℕ) → List ℕ
sheet_numbers (refused number line) = number ∷ line ∷ 0 ∷ 0 ∷ []
sheet_numbers (accepted numbers) = 0 ∷ numbers

-- The call's promise: these numbers, and the words of the rules; after a refusal the words as they were.
pub record SheetNumbers (s answer' words words' : List ℕ) (r : ℕ) : Type 0 where
  pub returns : r ≡ returned (sheet s)
  pub reports : answer' ≡ sheet_numbers (line_one (sheet s))
  pub stores : words' ≡ stored (sheet s) words

-- ---- The verdict.

-- "the code that starts the first line of `readentry`, or 100 plus the refusal number": that of the outcome that the start variable has at 0,
-- where nothing is refused.
abbrev pub Coded : Checked Grammar → List ℕ → ℕ → Type 0
Coded (refused number line) input r = r ≡ 100 + number
Coded (accepted g) input r = (o : Outcome) × Has g.rule input (g.start at 0) o × (r ≡ verdict_code (length input) o)

-- "it hands over sheet and entry"; "table and work slice are then the call's own, of 1,024 cells each"
abbrev pub VerdictCode : List ℕ → List ℕ → ℕ → Type 0
VerdictCode sheet input r = Coded (handed sheet (verdict_of input 2048 1024)) input r

-- The same of the four numbers of a first line.
abbrev pub code_of : List ℕ → ℕ
code_of xs = cond (eqb (get_or xs 0 0) 9) (100 + get_or xs 1 0) (get_or xs 0 0)

-- The verdict over lent slices: the promise of the verdict, with the four numbers of the first line in the answer, those of a refusal too.
pub record JudgeNumbers (sheet input table table' work work' answer' : List ℕ) (r : ℕ) : Type 0 where
  pub found : Result Judgement Refusal
  pub promise : VerdictPromise sheet input table table' work work' found
  pub returns : r ≡ 0
  pub reports : answer' ≡ numbers found

-- ---- The question, the correction and the further question.

-- The promise of such a call, with its answer in the question's numbers.
pub record AnswerNumbers (Promise : Result Answer Refusal → Type 0) (answer answer' : List ℕ) (r : ℕ) : Type 0 where
  pub found : Result Answer Refusal
  pub promise : Promise found
  pub returns : r ≡ returned (told found)
  pub reports : answer' ≡ reported question_numbers answer (told found)

abbrev pub QuestionNumbers : List ℕ → List ℕ → ℕ → ℕ → List ℕ → List ℕ → List ℕ → List ℕ → List ℕ → List ℕ → ℕ → Type 0
QuestionNumbers sheet input A p table table' work work' answer answer' r = AnswerNumbers (QuestionPromise sheet input A p table table' work work') answer answer' r

-- Here the count is of newly decided cells.
abbrev pub CorrectionNumbers : List ℕ → List ℕ → List ℕ → ℕ → ℕ → ℕ → List ℕ → List ℕ → List ℕ → List ℕ → List ℕ → List ℕ → ℕ → Type 0
CorrectionNumbers sheet old input A p c table table' work work' answer answer' r = AnswerNumbers (CorrectionPromise sheet old input A p c table table' work work') answer answer' r

abbrev pub FurtherNumbers : List ℕ → List ℕ → ℕ → ℕ → List ℕ → List ℕ → List ℕ → List ℕ → List ℕ → List ℕ → ℕ → Type 0
FurtherNumbers sheet input A p table table' work work' answer answer' r = AnswerNumbers (FurtherPromise sheet input A p table table' work work') answer answer' r

-- ---- The shorthand.

-- The one number of its answer: the sheet's length.
abbrev pub length_numbers : ℕ → List ℕ
length_numbers n = n ∷ []

-- The call's promise: that of `compile`, with its answer in this number.
pub record ShorthandNumbers (text out out' answer answer' : List ℕ) (r : ℕ) : Type 0 where
  pub found : Result ℕ Refusal
  pub promise : CompilePromise text out out' found
  pub returns : r ≡ returned (compiles found)
  pub reports : answer' ≡ reported length_numbers answer (compiles found)
