-- What comes again where bytes are appended: a result whose reach is within the input, and, where no finished pair that a pair reaches looked past the
-- input, a loop or a missing rule with its named pair, as what it reaches does the same. Assumes nothing.
use mathlib.Core.List.{List, ◌++◌}
use mathlib.Core.Path.{◌≡◌, refl, sym, ◌∙◌}
use Prim.Native.Nat.{ℕ, ◌+◌, ◌≤◌, ◌<◌}
use native.Mathlib.Omega.{arith}
use lib.ListN.{length, length-append, get_or-append}
use borrow.Author.Tests.{lt-ltb}
use Rattle.calls.proofs.Chain.{Calls}
use Rattle.calls.proofs.Reach as reaching
use Rattle.calls.proofs.Reach.{Reach, reach_on}
use Rattle.grammar.specs.Rule.{Rule, absent, always, never, byte, class, call}
use Rattle.schema.specs.Derivation.{Pair, ◌at◌, Result, gives, act_of, act, Outcome, result, stopped, loop, Has}
use Rattle.schema.specs.Examined.{leaf_reach, leaf}
use Rattle.schema.specs.Reached.{Named}
use Rattle.schema.proofs.Closed.{byte_result, class_result}
use Rattle.schema.proofs.Examined.{SameBefore, examines_same, examines_derives}
use Rattle.schema.proofs.System.{gts}
use Rattle.schema.proofs.TwoInputs.{act_same, has_same, named_same}
use Rattle.schema.proofs.Waiting.{from_reach}
use Rattle.appended.specs.Appended.{NonePastEnd, Lasting, ComesAgain}

module _ (input added : List ℕ) where
  same_before : (m : ℕ) → m ≤ length input → SameBefore m input (input ++ added)
  same_before m l p h =
      let e = length-append input added in
      let k : p < length input = omega arith in
      let j : p < length (input ++ added) = omega arith in
      (get_or-append input added 0 p k, lt-ltb p (length (input ++ added)) j ∙ sym (lt-ltb p (length input) k))

  -- A rule whose reach, if it is a leaf, is within the input does the same.
  rule_same : (u : Rule) (p : ℕ) → ((r : Result) → act_of u input p ≡ gives r → leaf_reach u p ≤ length input) → act_of u (input ++ added) p ≡ act_of u input p
  unfolding act_of
  rule_same absent p h = refl
  rule_same always p h = refl
  rule_same never p h = refl
  rule_same (byte b) p h =
      let g = byte_result b input p in
      let k = same_before (p + 1) (h g.0 g.1) p (omega arith) in
      act_same (byte b) input (input ++ added) p k.0 k.1
  rule_same (class c) p h =
      let g = class_result c input p in
      let k = same_before (p + 1) (h g.0 g.1) p (omega arith) in
      act_same (class c) input (input ++ added) p k.0 k.1
  rule_same (call B C D) p h = refl

module _ (rule : ℕ → Rule) (input added : List ℕ) (x : Pair) where
  -- The pairs that x reaches: their rules do the same, and calls do not leave them.
  abbrev FromHere : Pair → Type 0
  FromHere y = Reach (gts rule input) x y

  reached_act : NonePastEnd rule input x → (y : Pair) → FromHere y → act rule (input ++ added) y ≡ act rule input y
  reached_act w (A at p) h =
      rule_same input added (rule A) p (λ r e. w (A at p) r (leaf_reach (rule A) p) (from_reach rule input x h) (leaf e))

  reached_called : (y z : Pair) → FromHere y → Calls (gts rule input) y z → FromHere z
  reached_called y z h c = reach_on (gts rule input) h c

  has_again : NonePastEnd rule input x → (o : Outcome) → Has rule input x o → Has rule (input ++ added) x o
  has_again w o h = has_same rule input (input ++ added) FromHere (reached_act w) reached_called x o reaching.itself h

  named_again : NonePastEnd rule input x → (o : Outcome) (z : Pair) → Has rule input x o → Named rule input x o z → Named rule (input ++ added) x o z
  named_again w o z h n = named_same rule input (input ++ added) FromHere (reached_act w) reached_called x z o reaching.itself h n

  -- The law of orders 3 and 11 over derivations, outcome by outcome.
  pub comes_again : ComesAgain rule input added x
  comes_again = record { outcome = outcome; named = named }
    where
      outcome : (o : Outcome) → Lasting rule input x o → Has rule input x o → Has rule (input ++ added) x o
      outcome (result r) l h = examines_derives rule (input ++ added) (examines_same rule input (input ++ added) (same_before input added l.0 l.2) l.1)
      outcome (stopped w) l h = has_again l (stopped w) h
      outcome loop l h = has_again l loop h

      named : (o : Outcome) (z : Pair) → Lasting rule input x o → Has rule input x o → Named rule input x o z → Named rule (input ++ added) x o z
      named (result r) z l h n = n
      named (stopped w) z l h n = named_again l (stopped w) z h n
      named loop z l h n = named_again l loop z h n
