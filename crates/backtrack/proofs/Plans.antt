-- What the code plans is the machine's next step. Assumes nothing.
use mathlib.Core.Bool.{Bool, true, false, cond}
use mathlib.Core.List.{List, ◌∷◌}
use mathlib.Core.Path.{◌≡◌}
use Prim.Native.Nat.{ℕ, ◌+◌, ◌-◌, ◌*◌, ◌<◌, ◌≤◌}
use native.Mathlib.Omega.{arith}
use lib.ListN.{get_or}
use borrow.Author.Tests.{ne_eqb}
use Rattle.grammar.specs.Rule.{Rule}
use Rattle.schema.specs.Derivation.{Act, act, act_of, ◌at◌, result, success, failure}
use Rattle.schema.specs.Machine.{Frame, frame, stage0, state, stage0_of, step}
use Rattle.backtrack.specs.Frames.{flag_of, stack_in, Calls, Sound, Says, Plans}
use Rattle.backtrack.specs.declared.Ending.{Ending}
use Rattle.backtrack.specs.declared.Move.{Move}
use Rattle.backtrack.specs.declared.Move.TheVariants.{Pop, Push}
use Rattle.std.specs.declared.ops.ControlFlow.{ControlFlow}
use Rattle.std.specs.declared.ops.ControlFlow.TheVariants.{Break, Continue}
use Rattle.backtrack.proofs.Stack.{stack_top}

-- The numbers of the top frame, of d frames.
abbrev variable : List ℕ → ℕ → ℕ
variable xs d = get_or xs ((d - 1) * 3) 0

abbrev start : List ℕ → ℕ → ℕ
start xs d = get_or xs ((d - 1) * 3 + 1) 0

abbrev stage : List ℕ → ℕ → ℕ
stage xs d = get_or xs ((d - 1) * 3 + 2) 0

-- What is known of the top frame of a sound stack.
pub record Top (rule : ℕ → Rule) (xs : List ℕ) (d : ℕ) : Type 0 where
  pub low : 1 ≤ variable xs d
  pub high : variable xs d ≤ 256
  pub called : stage xs d ≡ 1 → Calls (rule (variable xs d))

-- A sound stack with a frame has such a top.
pub sound_top : (rule : ℕ → Rule) (xs : List ℕ) (d : ℕ) → 0 < d → Sound rule (stack_in xs d) → Top rule xs d
sound_top rule xs d deep h =
    let t = rw (stack_top xs d deep) at h in
    record { low = t.0; high = t.1; called = λ e. t.2 (rw e) }

module _ (rule : ℕ → Rule) (input xs : List ℕ) (p moves d : ℕ) where
  -- The plan says what the machine's next step is.
  abbrev Right : Bool → ControlFlow Ending Move → Type 0
  Right flag plan = Plans moves (stack_in xs d) (step rule input (state (flag_of flag) p moves (stack_in xs d))) plan

  -- No frame is left.
  pub right_bottom : (flag : Bool) (e : Ending) → d ≡ 0 → Says moves (result (cond flag (success p) failure)) e → Right flag (Break e)
  unfolding step stack_in
  right_bottom true e z h = (result (success p), rw z, h)
  right_bottom false e z h = (result failure, rw z, h)

  -- The top frame is at stage 0.
  pub right_stage0 : (flag : Bool) (a : Act) (plan : ControlFlow Ending Move) → 0 < d → stage xs d ≡ 0 → a ≡ act rule input (variable xs d at p)
      → ((X i : ℕ) (stack : List Frame) → Plans moves (frame X i stage0 ∷ stack) (stage0_of a (flag_of flag) X i p moves stack) plan)
      → Right flag plan
  unfolding step
  right_stage0 true a plan deep z e h = rw (stack_top xs d deep, z, ← e) (h _ _ _)
  right_stage0 false a plan deep z e h = rw (stack_top xs d deep, z, ← e) (h _ _ _)

  -- At stage 1: C or D is called.
  pub right_stage1 : (flag : Bool) (v q : ℕ) → 0 < d → stage xs d ≡ 1 → (k : Calls (rule (variable xs d))) → v ≡ cond flag k.1 k.2
      → q ≡ cond flag p (start xs d) → Right flag (Continue (Push true 2 v q))
  unfolding step act_of
  right_stage1 true v q deep z k e b = rw (stack_top xs d deep, z, k.3, e, b)
  right_stage1 false v q deep z k e b = rw (stack_top xs d deep, z, k.3, e, b)

  -- At stage 2: pop.
  pub right_stage2 : (flag : Bool) (q : ℕ) → 0 < d → 2 ≤ stage xs d → q ≡ cond flag p (start xs d)
      → Right flag (Continue (Pop flag q))
  unfolding step
  right_stage2 true q deep z b = simp (stack_top xs d deep, ne_eqb (stage xs d) 0 (omega arith), ne_eqb (stage xs d) 1 (omega arith), b)
  right_stage2 false q deep z b = simp (stack_top xs d deep, ne_eqb (stage xs d) 0 (omega arith), ne_eqb (stage xs d) 1 (omega arith), b)

-- What `peek` plans.
pub ruleset plans = (sound_top, right_bottom, right_stage0, right_stage1, right_stage2)
