-- The numbers of answers, written readings and claims that exported calls hand over. Assumes nothing.
use Rattle.std.specs.Prelude.{List, [], ◌∷◌, ◌++◌, ◌≡◌, ℕ, ◌+◌, Result, Ok, Err}
use Rattle.grammar.specs.Refusal.{Checked, refused, accepted}
use Rattle.grammar.specs.declared.refusal.Refusal.{Refusal}
use Rattle.schema.specs.Derivation.{◌at◌, success, failure, result}
use Rattle.schema.specs.Exported.{returned, reported}
use Rattle.schema.specs.Table.{code}
use Rattle.finish.specs.Reply.{Reply, reply, outcome_of}
use Rattle.writer.specs.Writer.{told, lines_in, WriterPromise}
use Rattle.writer.specs.declared.Written.{Written}
use Rattle.checker.specs.Checker.{Claimed, succeeds, fails, check}

-- ---- Any call.

-- The number of an answer, "or 100 plus the refusal number".
abbrev pub number_of : Result ℕ ℕ → ℕ
number_of (Ok number) = number
number_of (Err number) = 100 + number

-- What numbers, or the number of a refusal, say of an answer.
abbrev pub handed_over : Result (List ℕ) ℕ → Checked (List ℕ)
handed_over (Ok numbers) = accepted numbers
handed_over (Err number) = refused number 0

-- ---- The question.

-- The code of a reply's outcome.
abbrev pub reply_code : Reply → ℕ
reply_code a = code (outcome_of a)

-- The four numbers of an answer: what the cell of the pair holds, the named variable and the named position (both 0 if none is named), the count
-- of decided cells.
abbrev pub question_numbers : Reply → List ℕ
question_numbers (reply o (A at p) count) = code o ∷ A ∷ p ∷ count ∷ []

-- ---- The writer.

-- The four numbers of an answer, and the count of lines.
abbrev pub writer_numbers : ℕ → Reply → List ℕ
writer_numbers lines a = question_numbers a ++ lines ∷ []

-- The call's promise: that of the writer, with its answer and the count of lines in these numbers.
pub record WriterNumbers (sheet input : List ℕ) (A p : ℕ) (table table' work work' out out' answer answer' : List ℕ) (r : ℕ) : Type 0 where
  pub found : Result Written Refusal
  pub promise : WriterPromise sheet input A p table table' work work' out out' found
  pub returns : r ≡ returned (told found)
  pub reports : answer' ≡ reported (writer_numbers (lines_in found)) answer (told found)

-- ---- The checker.

-- The code of the outcome that a reading claims.
abbrev pub claim_code : Claimed → ℕ
claim_code (succeeds e) = code (result (success e))
claim_code (fails e) = code (result failure)

-- The end in the last line.
abbrev pub claim_end : Claimed → ℕ
claim_end (succeeds e) = e
claim_end (fails e) = e

-- "The checker returns the outcome and end in the last line".
abbrev pub claim_numbers : Claimed → List ℕ
claim_numbers c = claim_code c ∷ claim_end c ∷ []

-- The call's promise: what the definition of checking says of the reading, in these numbers.
pub record CheckNumbers (sheet input : List ℕ) (A p : ℕ) (reading answer answer' : List ℕ) (r : ℕ) : Type 0 where
  pub returns : r ≡ returned (check sheet input (A at p) reading)
  pub reports : answer' ≡ reported claim_numbers answer (check sheet input (A at p) reading)
