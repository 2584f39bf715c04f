-- A step keeps the stack sound. Assumes nothing.
use mathlib.Core.Bool.{Bool, true, false}
use mathlib.Core.List.{List, [], ◌∷◌}
use mathlib.Core.Path.{◌≡◌, refl}
use Prim.Native.Nat.{ℕ}
use native.Mathlib.Nat.{suc-ne-zero}
use native.Mathlib.Omega.{arith}
use lib.Dec.{ltb, eqb}
use lib.ListN.{length, get_or}
use Rattle.classes.specs.Class.{class_of}
use Rattle.grammar.specs.Rule.{Rule, absent, always, never, byte, class, call}
use Rattle.grammar.specs.Words.{rule_in}
use Rattle.schema.specs.Derivation.{Act, gives, stops, calls, success, failure, one_byte, act_of, act, ◌at◌}
use Rattle.schema.specs.Machine.{s, f, stage0, stage1, stage2, Frame, frame, State, state, stack_of, Flag, Next, outcome, move, operand_c, operand_d, stage0_of, step}
use Rattle.backtrack.specs.Frames.{Sound}
use Rattle.rules.proofs.RuleWords.{operands}

no_call : (input : List ℕ) (p : ℕ) (below matches : Bool) {B C D : ℕ} → ltb p (length input) ≡ below → one_byte input p matches ≡ calls B C D → ⊥
no_call input p true true b e = let q = rw b at e in suc-ne-zero 0 (cc)
no_call input p true false b e = let q = rw b at e in suc-ne-zero 0 (cc)
no_call input p false matches b e = let q = rw b at e in suc-ne-zero 0 (cc)

-- Only a kind 4 rule calls.
call_of : (R : Rule) (input : List ℕ) (p : ℕ) {B C D : ℕ} → act_of R input p ≡ calls B C D → R ≡ call B C D
unfolding act_of
call_of absent input p e = cc
call_of always input p e = cc
call_of never input p e = cc
call_of (byte b) input p e = absurd (no_call input p (ltb p (length input)) (eqb (get_or input p 0) b) refl e)
call_of (class c) input p e = absurd (no_call input p (ltb p (length input)) (eqb (class_of (get_or input p 0)) c) refl e)
call_of (call B C D) input p e = cc

module _ (ws input : List ℕ) where
  -- A frame at stage 0 for an operand of a kind 4 rule, on a sound stack.
  abbrev Callable : ℕ → Type 0
  Callable B = (stack : List Frame) (i : ℕ) → Sound (rule_in ws) stack → Sound (rule_in ws) (frame B i stage0 ∷ stack)

  callable : (A B C D : ℕ) → rule_in ws A ≡ call B C D → Callable B × Callable C × Callable D
  callable A B C D e =
      let o = operands ws A B C D e in (
        (λ stack i h. (omega arith, omega arith, (λ z. absurd (suc-ne-zero 0 (cc))), h)),
        (λ stack i h. (omega arith, omega arith, (λ z. absurd (suc-ne-zero 0 (cc))), h)),
        (λ stack i h. (omega arith, omega arith, (λ z. absurd (suc-ne-zero 0 (cc))), h)),
      )

  abbrev SoundNext : Next → Type 0
  SoundNext (outcome o) = Unit {0}
  SoundNext (move y) = Sound (rule_in ws) (stack_of y)

  sound_stage0 : (flag : Flag) (X i p m : ℕ) (stack : List Frame) (a : Act) → act (rule_in ws) input (X at p) ≡ a
      → Sound (rule_in ws) (frame X i stage0 ∷ stack) → SoundNext (stage0_of a flag X i p m stack)
  sound_stage0 flag X i p m stack (gives (success q)) e h = h.3
  sound_stage0 flag X i p m stack (gives failure) e h = h.3
  sound_stage0 flag X i p m stack (stops w) e h = tt
  sound_stage0 flag X i p m stack (calls B C D) e h =
      let k = call_of (rule_in ws X) input p e in
      (callable X B C D k).0 (frame X i stage1 ∷ stack) p (h.0, h.1, (λ z. (B, C, D, k)), h.3)

  sound_next : (x : State) → Sound (rule_in ws) (stack_of x) → SoundNext (step (rule_in ws) input x)
  unfolding step act_of
  sound_next (state s p m []) h = tt
  sound_next (state f p m []) h = tt
  sound_next (state flag p m (frame X i stage0 ∷ stack)) h = sound_stage0 flag X i p m stack (act (rule_in ws) input (X at p)) refl h
  sound_next (state s p m (frame X i stage1 ∷ stack)) h =
      let k = h.2 refl in
      let q : operand_c (act (rule_in ws) input (X at i)) ≡ k.1 = rw k.3 in
      rw q ((callable X k.0 k.1 k.2 k.3).1 (frame X i stage2 ∷ stack) p (h.0, h.1, (λ z. absurd (suc-ne-zero 0 (cc))), h.3))
  sound_next (state f p m (frame X i stage1 ∷ stack)) h =
      let k = h.2 refl in
      let q : operand_d (act (rule_in ws) input (X at i)) ≡ k.2 = rw k.3 in
      rw q ((callable X k.0 k.1 k.2 k.3).2 (frame X i stage2 ∷ stack) i (h.0, h.1, (λ z. absurd (suc-ne-zero 0 (cc))), h.3))
  sound_next (state s p m (frame X i stage2 ∷ stack)) h = h.3
  sound_next (state f p m (frame X i stage2 ∷ stack)) h = h.3

  -- A move leads from a sound stack to a sound stack.
  pub sound_move : (x y : State) → step (rule_in ws) input x ≡ move y → Sound (rule_in ws) (stack_of x) → Sound (rule_in ws) (stack_of y)
  sound_move x y e h = rw e at (sound_next x h)
