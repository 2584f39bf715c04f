-- A question that only tells whether its pair loops: one that is answered otherwise does not. Assumes nothing.
use mathlib.Core.Bool.{false, true≢false}
use mathlib.Core.List.{List}
use mathlib.Core.Logic.{◌≢◌}
use mathlib.Core.Path.{refl, ap, ◌∙◌}
use Prim.Native.Nat.{ℕ}
use Rattle.grammar.specs.Rule.{Rule}
use Rattle.schema.specs.Derivation.{Pair, Outcome, loop}
use Rattle.schema.proofs.Laws.{has_one}
use Rattle.finish.specs.Reply.{reply, reply_of}
use Rattle.finish.specs.declared.Answer.{Answer}
use Rattle.finish.specs.declared.Answer.TheVariants as answer
use Rattle.memo.specs.Answer.{Answers}
use Rattle.opening.specs.Seeking.{AskedLoop}

abbrev OtherThanLoop : Answer → Type 0
OtherThanLoop a = (A p count : ℕ) → a ≢ answer.Loop A p count

not_loop : (a : Answer) → OtherThanLoop a → (z : Pair) (count : ℕ) → reply_of a ≢ reply loop z count
not_loop (answer.Success q count) k z c e = true≢false (cc)
not_loop (answer.Failure count) k z c e = true≢false (cc)
not_loop (answer.Missing A p count) k z c e = true≢false (cc)
not_loop (answer.Loop A p count) k z c e = k A p count refl

pub asked_other : {rule : ℕ → Rule} {v : ℕ} {input : List ℕ} {x : Pair} {T T' W W' : List ℕ} (a : Answer) → Answers rule v input x T T' W W' (reply_of a) → OtherThanLoop a
    → AskedLoop rule v input x T T' W W' false
asked_other {rule} {v} {input} {x} a b k = record {
  said = λ h. not_loop a k b.named _ (b.says ∙ ap (λ (o : Outcome). reply o b.named _) (has_one rule input x b.outcome loop b.has h));
  leaves = b.leaves;
  beyond = b.beyond;
  size = b.size;
}
