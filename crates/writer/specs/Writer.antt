-- Document 01, "Readings": the writer. Assumes nothing.
use Rattle.std.specs.Prelude.{List, [], ◌∷◌, ◌++◌, ◌≡◌, ℕ, ◌*◌, length, drop, Result as Checkable, Ok, Err}
use Rattle.grammar.specs.Numbers.{checked_as}
use Rattle.grammar.specs.Refusal.{Checked, refused, accepted}
use Rattle.grammar.specs.Rule.{Rule}
use Rattle.grammar.specs.Sheet.{Grammar}
use Rattle.grammar.specs.declared.refusal.Refusal.{Refusal}
use Rattle.schema.specs.Derivation.{Pair, ◌at◌, Result, gives, calls, act, second, Outcome, result, stopped, loop}
use Rattle.schema.specs.Handed.{handed, writer_of}
use Rattle.schema.specs.Line.{Line, line_of, lines_bytes, Stands}
use Rattle.finish.specs.Reply.{Reply, reply_of, outcome_of}
use Rattle.memo.specs.Answer.{Answers}
use Rattle.writer.specs.declared.Written.{Written}

-- No line is that of the pair.
abbrev pub Unwritten : List Line → Pair → Type 0
Unwritten ls x = (i : ℕ) (r : Result) → Stands ls i x r → ⊥

-- "for a pair, B's pair first, then C's or D's, then the pair's own line, and a pair already written is passed over;
-- each line is laid down after those already written": the visit of a pair takes the lines before it to those after it.
pub data Visits (rule : ℕ → Rule) (input : List ℕ) : List Line → Pair → List Line → Type 0 where
  passed : {before : List Line} {x : Pair} {i : ℕ} {r : Result} → Stands before i x r → Visits rule input before x before
  leaf : {before : List Line} {x : Pair} {r : Result} → Unwritten before x → act rule input x ≡ gives r
      → Visits rule input before x (before ++ line_of x r 0 0 ∷ [])
  node : {before middle after : List Line} {A B C D p i j : ℕ} {r t : Result} → Unwritten before (A at p) → act rule input (A at p) ≡ calls B C D
      → Visits rule input before (B at p) middle → Stands middle i (B at p) t
      → Visits rule input middle (second C D p t) after → Stands after j (second C D p t) r
      → Visits rule input before (A at p) (after ++ line_of (A at p) r i j ∷ [])

-- "It goes through the reached pairs from the question"; "For loop, missing .. it writes nothing".
abbrev pub Lines : (ℕ → Rule) → List ℕ → Pair → Outcome → List Line → Type 0
Lines rule input x (result r) ls = Visits rule input [] x ls
Lines rule input x (stopped w) ls = ls ≡ []
Lines rule input x loop ls = ls ≡ []

-- "Its result adds the count of lines; output beyond them is unchanged."
pub record Writes (rule : ℕ → Rule) (input : List ℕ) (x : Pair) (o : Outcome) (out out' : List ℕ) (count : ℕ) : Type 0 where
  pub lines : List Line
  pub ordered : Lines rule input x o lines
  pub counted : count ≡ length lines
  pub written : out' ≡ lines_bytes lines ++ drop (49 * length lines) out

-- "The writer asks the question as the engine does, with the same result, table and work slice."
abbrev pub SaysWriting : (ℕ → Rule) → ℕ → List ℕ → Pair → List ℕ → List ℕ → List ℕ → List ℕ → List ℕ → List ℕ → Checked Reply → ℕ → Type 0
SaysWriting rule v input x table table' work work' out out' r count =
    (a : Reply) × (r ≡ accepted a) × Answers rule v input x table table' work work' a × Writes rule input x (outcome_of a) out out' count

-- The first refusal, with the slices and the output as they were, or an answer with its lines.
abbrev pub RepliesWriting : Checked Grammar → List ℕ → Pair → List ℕ → List ℕ → List ℕ → List ℕ → List ℕ → List ℕ → Checked Reply → ℕ → Type 0
RepliesWriting (refused number line) input x table table' work work' out out' r count =
    (r ≡ refused number line) × (table' ≡ table) × (work' ≡ work) × (out' ≡ out) × (count ≡ 0)
RepliesWriting (accepted g) input x table table' work work' out out' r count =
    SaysWriting g.rule g.variables input x table table' work work' out out' r count

-- What the writer says of its question,
abbrev pub told : Checkable Written Refusal → Checked Reply
told = checked_as (λ w. reply_of w.answer)

-- and the count of lines that it adds, 0 where it is refused.
abbrev pub lines_in : Checkable Written Refusal → ℕ
lines_in (Ok w) = w.lines
lines_in (Err e) = 0

-- The promise of the writer.
abbrev pub WriterPromise : List ℕ → List ℕ → ℕ → ℕ → List ℕ → List ℕ → List ℕ → List ℕ → List ℕ → List ℕ → Checkable Written Refusal → Type 0
WriterPromise sheet input A p table table' work work' out out' r =
    RepliesWriting (handed sheet (writer_of input (A at p) (length table) (length work) (length out))) input (A at p) table table' work work' out out'
    (told r) (lines_in r)
