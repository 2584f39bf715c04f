-- One grammar on two inputs: on a set of pairs that calls do not leave, where its rules do the same on both, outcomes and named pairs are the same.
-- Assumes nothing.
use mathlib.Core.List.{List, []}
use mathlib.Core.Path.{◌≡◌, refl, ap, subst}
use Prim.Native.Nat.{ℕ}
use lib.Dec.{ltb}
use lib.ListN.{length, get_or}
use Rattle.calls.proofs.Carry.{Agree, means_iff, follow_over}
use Rattle.calls.proofs.Chain.{Calls, to_first, to_second}
use Rattle.calls.proofs.Follow as following
use Rattle.calls.proofs.System.{Answer, halts, loops, Means}
use Rattle.grammar.specs.Rule.{Rule, absent, always, never, byte, class, call}
use Rattle.schema.specs.Derivation.{Pair, Result, Stop, Act, act_of, act, Outcome, result, stopped, loop, Has}
use Rattle.schema.specs.Reached.{Named}
use Rattle.schema.proofs.System.{gts, kind_of, first_of, second_of, answer_of, means_has}
use Rattle.schema.proofs.Laws.{outcome_answer, has_means}
use Rattle.schema.proofs.Waiting.{to_follow, from_named}

-- A rule does the same on two inputs where it sees the same byte, or on both none.
pub act_same : (u : Rule) (s s' : List ℕ) (p : ℕ) → get_or s' p 0 ≡ get_or s p 0 → ltb p (length s') ≡ ltb p (length s) → act_of u s' p ≡ act_of u s p
unfolding act_of
act_same absent s s' p e l = refl
act_same always s s' p e l = refl
act_same never s s' p e l = refl
act_same (byte b) s s' p e l = rw (e, l)
act_same (class c) s s' p e l = rw (e, l)
act_same (call B C D) s s' p e l = refl

-- On the pairs of R the rules do the same, and no call leaves R.
module _ (rule : ℕ → Rule) (s s' : List ℕ) (R : Pair → Type 0) (same : (x : Pair) → R x → act rule s' x ≡ act rule s x)
    (called : (x y : Pair) → R x → Calls (gts rule s) x y → R y) where
  agree : Agree (gts rule s) (gts rule s') (λ x. x) R
  unfolding gts
  agree = record {
    kinds = λ x r. ap kind_of (same x r);
    firsts = λ x r q. (ap (first_of x) (same x r), called x _ r (to_first q refl));
    seconds = λ x a r q m. (ap (λ (c : Act). second_of x c a) (same x r), called x _ r (to_second q m.2 refl));
    joins = λ x a c r. refl;
  }

  means_same : (x : Pair) (o : Outcome) → R x → Has rule s x o → Means (gts rule s') x (answer_of o)
  means_same x o r h = (means_iff (gts rule s) (gts rule s') (λ x. x) R agree x (answer_of o) r).0 (has_means rule s x o h)

  follow_same : (x z : Pair) (a : Answer Result Stop) → R x → following.Follow (gts rule s) [] x a z → following.Follow (gts rule s') [] x a z
  follow_same x z a r f = follow_over (gts rule s) (gts rule s') (λ x. x) R agree (λ y z i j e. e) (λ y i. absurd i) r f

  -- An outcome on the first input is one on the second,
  pub has_same : (x : Pair) (o : Outcome) → R x → Has rule s x o → Has rule s' x o
  has_same x o r h = subst (Has rule s' x) (outcome_answer o) ((means_has rule s' x (answer_of o)).0 (means_same x o r h))

  -- and names the same pair.
  pub named_same : (x z : Pair) (o : Outcome) → R x → Has rule s x o → Named rule s x o z → Named rule s' x o z
  named_same x z (result t) r h n = n
  named_same x z (stopped w) r h n =
      from_named rule s' x z (halts w) (means_same x (stopped w) r h) (follow_same x z (halts w) r (to_follow rule s n))
  named_same x z loop r h n = from_named rule s' x z loops (means_same x loop r h) (follow_same x z loops r (to_follow rule s n))
