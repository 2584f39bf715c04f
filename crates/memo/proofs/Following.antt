-- The refusals of a question, about any result that meets the call's contract. Assumes nothing.
use mathlib.Core.List.{List}
use mathlib.Core.Path.{◌≡◌, subst}
use Prim.Native.Nat.{ℕ}
use lib.ListN.{length}
use Rattle.std.specs.Prelude.{Result}
use Rattle.grammar.specs.declared.refusal.Refusal.{Refusal}
use Rattle.grammar.specs.Refusal.{Checked, refused, accepted}
use Rattle.grammar.specs.Sheet.{Grammar}
use Rattle.schema.specs.Derivation.{◌at◌}
use Rattle.schema.specs.Handed.{handed, question_of}
use Rattle.schema.proofs.Following.{Follows}
use Rattle.finish.specs.Reply.{Reply, told}
use Rattle.finish.specs.declared.Answer.{Answer}
use Rattle.memo.specs.Answer.{Replies, QuestionPromise}

-- A question is refused as `handed` says, and then with table and work slice as they were.
pub question_follows : (s input : List ℕ) (A p : ℕ) (table table' work work' : List ℕ) (r : Result Answer Refusal) → QuestionPromise s input A p table table' work work' r
    → Follows Reply s (question_of input (A at p) (length table) (length work)) (told r) ((table' ≡ table) × (work' ≡ work))
question_follows s input A p table table' work work' r promise = record {
  refused_as = λ x l e. let k = given (refused x l) e in (k.0, (k.1, k.2));
  accepted_as = λ g e. let k = given (accepted g) e in (k.0, k.1);
}
  where
    given : (o : Checked Grammar) → handed s (question_of input (A at p) (length table) (length work)) ≡ o → Replies o input (A at p) table table' work work' (told r)
    given o e = subst (λ (o : Checked Grammar). Replies o input (A at p) table table' work work' (told r)) e promise
