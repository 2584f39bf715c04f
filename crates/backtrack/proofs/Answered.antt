-- Demand 2 for success and failure: "The backtracking machine gives the outcome of a k-step derivation exactly when it is lent at least
-- 2k - 1 moves and as many frames as the derivation is high." Assumes nothing.
use mathlib.Core.List.{List, []}
use mathlib.Core.Logic.{◌↔◌}
use mathlib.Core.Path.{◌≡◌, refl, ◌∙◌}
use Prim.Native.Nat.{ℕ, zero, suc, ◌+◌, ◌*◌, ◌-◌, ◌<◌, ◌≤◌}
use native.Mathlib.Nat.{suc-ne-zero}
use native.Mathlib.Omega.{arith}
use Rattle.grammar.specs.Rule.{Rule}
use Rattle.schema.proofs.Ends.{position_of}
use Rattle.schema.specs.Derivation.{Pair, Result, success, failure, Derives, Outcome, result}
use Rattle.schema.specs.Machine.{popped, step, says, spent, no_frame, Ran, ran, run, machine}
use Rattle.backtrack.proofs.Part.{Part, goes, short, narrow}
use Rattle.backtrack.proofs.Steps.{machine_run, machine_none}
use Rattle.backtrack.proofs.Derived.{positive, takes}

-- What the machine comes to on a pair that has the result r by k steps, h high: the result after 2k - 1 moves, given that many and room
-- for h frames; with less, spent once all the budget's moves are made, or no frame.
pub data Answered (r : Result) (k h budget room : ℕ) : Ran → Type 0 where
  answered : 2 * k - 1 ≤ budget → h ≤ room → Answered r k h budget room (ran (says (result r)) (2 * k - 1))
  out_of_moves : budget < 2 * k - 1 → Answered r k h budget room (ran spent budget)
  out_of_frames : {moves : ℕ} → room < h → Answered r k h budget room (ran no_frame moves)

module _ (rule : ℕ → Rule) (input : List ℕ) where
  over : (left room p m : ℕ) (r : Result) → run rule input left room (popped r p m []) ≡ ran (says (result r)) m
  unfolding run step
  over zero room p m (success q) = refl
  over zero room p m failure = refl
  over (suc left) room p m (success q) = refl
  over (suc left) room p m failure = refl

  -- A derivation has at least one step, and the machine answers it exactly so.
  pub machine_answers : {x : Pair} {r : Result} {k h : ℕ} → Derives rule input x r k h → (budget room : ℕ)
      → (1 ≤ k) × Answered r k h budget room (machine rule input x budget room)
  machine_answers {x} {r} {k} {h} d budget room = ((positive rule input d).0, go room)
    where
      ended : (room : ℕ) (a : Ran) → Part budget (2 * k - 1) room (h + 0) 0 a (λ left moves. run rule input left room (popped r (position_of x) moves []))
          → Answered r k h budget room a
      ended room a (goes left e fits same) =
          let z : 0 + (2 * k - 1) ≡ 2 * k - 1 = omega arith in
          rw (same ∙ over left room (position_of x) (0 + (2 * k - 1)) r, z) (answered (omega arith) (omega arith))
      ended room a (short less same) =
          let z : 0 + budget ≡ budget = omega arith in
          rw (same, z) (out_of_moves less)
      ended room a (narrow less moves same) = rw same (out_of_frames (omega arith))

      go : (room : ℕ) → Answered r k h budget room (machine rule input x budget room)
      go zero = let some = positive rule input d in rw (machine_none rule input x budget) (out_of_frames (omega arith))
      go (suc n) = rw (machine_run rule input x budget (suc n) (omega arith)) (ended (suc n) _ (takes rule input d budget (suc n) 0 [] (omega arith)))

  -- Exactly when: the machine says the result if and only if it is lent that much.
  pub exactly : {x : Pair} {r : Result} {k h : ℕ} → Derives rule input x r k h → (budget room : ℕ)
      → (machine rule input x budget room ≡ ran (says (result r)) (2 * k - 1)) ↔ ((2 * k - 1 ≤ budget) × (h ≤ room))
  exactly {x} {r} {k} {h} d budget room = go (machine rule input x budget room) (machine_answers d budget room).1
    where
      go : (a : Ran) → Answered r k h budget room a → (a ≡ ran (says (result r)) (2 * k - 1)) ↔ ((2 * k - 1 ≤ budget) × (h ≤ room))
      go a (answered enough fits) = ((λ e. (enough, fits)), (λ e. refl))
      go a (out_of_moves less) = ((λ e. absurd (suc-ne-zero 0 (cc))), (λ e. absurd (omega arith)))
      go a (out_of_frames less) = ((λ e. absurd (suc-ne-zero 0 (cc))), (λ e. absurd (omega arith)))

  -- What the machine says of a pair that has a result is that result, and nothing else.
  pub only_result : {x : Pair} {r : Result} {k h : ℕ} → Derives rule input x r k h → (budget room moves : ℕ) (o : Outcome)
      → machine rule input x budget room ≡ ran (says o) moves → o ≡ result r
  only_result {x} {r} {k} {h} d budget room moves o e = go (machine rule input x budget room) e (machine_answers d budget room).1
    where
      go : (a : Ran) → a ≡ ran (says o) moves → Answered r k h budget room a → o ≡ result r
      go a e (answered enough fits) = cc
      go a e (out_of_moves less) = cc
      go a e (out_of_frames less) = cc
