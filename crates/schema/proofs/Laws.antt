-- A pair has one result, one count of steps, one height, one outcome, and names one pair; there is one number of pairs with a property. Assumes nothing.
use mathlib.Core.List.{List, Mem, Permᴰ, perm_ext_iff_of_Nodup}
use mathlib.Core.Logic.{∥∥₁_elim, ∥∥₁_map}
use mathlib.Core.Path.{◌≡◌, refl, sym, ap, ◌∙◌, subst}
use Prim.Native.Nat.{ℕ, suc}
use native.Mathlib.Nat.{ℕ_set}
use lib.ListN.{length}
use Rattle.calls.proofs.Follow.{follow_one}
use Rattle.calls.proofs.Determinism.{done_one, means_one}
use Rattle.calls.proofs.System.{Means}
use Rattle.grammar.specs.Rule.{Rule}
use Rattle.schema.specs.Derivation.{Pair, Result, Derives, Outcome, result, stopped, loop, Has}
use Rattle.schema.specs.Reached.{Named, Number}
use Rattle.schema.proofs.System.{gts, outcome_of, answer_of, to_done, means_has}
use Rattle.schema.proofs.Waiting.{to_follow}

-- The answer of an outcome stands for that outcome.
pub outcome_answer : (o : Outcome) → outcome_of (answer_of o) ≡ o
outcome_answer (result r) = refl
outcome_answer (stopped w) = refl
outcome_answer loop = refl

module _ (rule : ℕ → Rule) (s : List ℕ) where
  -- Two derivations of a pair have the same result, steps and height.
  pub derives_one : {x : Pair} {r t : Result} {k l g h : ℕ} → Derives rule s x r k g → Derives rule s x t l h → (r ≡ t) × (k ≡ l) × (g ≡ h)
  derives_one d f = done_one (gts rule s) (to_done rule s d) (to_done rule s f)

  -- An outcome is what the pair means in the system.
  pub has_means : (x : Pair) (o : Outcome) → Has rule s x o → Means (gts rule s) x (answer_of o)
  has_means x o h = (means_has rule s x (answer_of o)).1 (subst (Has rule s x) (sym (outcome_answer o)) h)

  -- A pair has one outcome at most.
  pub has_one : (x : Pair) (o p : Outcome) → Has rule s x o → Has rule s x p → o ≡ p
  has_one x o p h g =
      sym (outcome_answer o) ∙ ap outcome_of (means_one (gts rule s) x (answer_of o) (answer_of p) (has_means x o h) (has_means x p g)) ∙ outcome_answer p

  -- An outcome names one pair.
  pub named_one : (x z w : Pair) (o : Outcome) → Named rule s x o z → Named rule s x o w → z ≡ w
  named_one x z w (result r) p q = p ∙ sym q
  named_one x z w (stopped v) p q = (follow_one (gts rule s) (to_follow rule s p) (to_follow rule s q)).1
  named_one x z w loop p q = (follow_one (gts rule s) (to_follow rule s p) (to_follow rule s q)).1

permuted_length : {l m : List Pair} → Permᴰ l m → length l ≡ length m
permuted_length Permᴰ.nil = refl
permuted_length (Permᴰ.cons e p) = ap suc (permuted_length p)
permuted_length (Permᴰ.swap e f) = refl
permuted_length (Permᴰ.trans p q) = permuted_length p ∙ permuted_length q

shared : {P : Pair → Type 0} {c d : ℕ} (m : Number P c) (n : Number P d) (x : Pair) → Mem x m.pairs → Mem x n.pairs
shared m n x i = ∥∥₁_map i (λ j. (n.exactly x).1 ((m.exactly x).0 j))

-- Two numbers of the pairs with a property are equal.
pub number_one : {P : Pair → Type 0} {c d : ℕ} → Number P c → Number P d → c ≡ d
number_one m n =
    let p = (perm_ext_iff_of_Nodup m.distinct n.distinct).1 (λ x. (shared m n x, shared n m x)) in
    sym m.counted ∙ ∥∥₁_elim p (ℕ_set (length m.pairs) (length n.pairs)) permuted_length ∙ n.counted
