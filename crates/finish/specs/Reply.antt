-- Document 01, "The table engine": what a question is answered. Assumes nothing.
use Rattle.std.specs.Prelude.{◌≡◌, ℕ, Result}
use Rattle.grammar.specs.Numbers.{checked_as}
use Rattle.grammar.specs.Refusal.{Checked}
use Rattle.grammar.specs.declared.refusal.Refusal.{Refusal}
use Rattle.schema.specs.Derivation.{Pair, ◌at◌, success, failure, missing, Outcome, result, stopped, loop}
use Rattle.finish.specs.declared.Answer.{Answer}
use Rattle.finish.specs.declared.Answer.TheVariants.{Success, Failure, Loop, Missing}

-- "The result carries the outcome, the named pair if any, and the count of decided (non-blank) cells". No pair is 0 at 0.
pub data Reply : Type 0 where
  reply : Outcome → Pair → ℕ → Reply

-- The outcome of a reply.
abbrev pub outcome_of : Reply → Outcome
outcome_of (reply o z count) = o

-- The pair that it names.
abbrev pub named_of : Reply → Pair
named_of (reply o z count) = z

-- Its count of decided cells.
abbrev pub count_of : Reply → ℕ
count_of (reply o z count) = count

-- Two replies with one outcome, a success with the same end, and one named pair. Their counts may differ.
abbrev pub SaysSame : Reply → Reply → Type 0
SaysSame a b = (outcome_of a ≡ outcome_of b) × (named_of a ≡ named_of b)

-- What each case of the answer says.
abbrev pub reply_of : Answer → Reply
reply_of (Success q count) = reply (result (success q)) (0 at 0) count
reply_of (Failure count) = reply (result failure) (0 at 0) count
reply_of (Loop A p count) = reply loop (A at p) count
reply_of (Missing A p count) = reply (stopped missing) (A at p) count

-- What a call says that is answered so or refused.
abbrev pub told : Result Answer Refusal → Checked Reply
told = checked_as reply_of
