-- How the code holds the machine's state, and what its parts do. Assumes nothing.
use Rattle.std.specs.Prelude.{Bool, true, false, cond, List, [], ◌∷◌, ◌≡◌, ℕ, zero, suc, ◌+◌, ◌-◌, ◌*◌, ◌≤◌, eqb, length, get_or, drop}
use Rattle.grammar.specs.Rule.{Rule, call}
use Rattle.schema.specs.Derivation.{Outcome}
use Rattle.schema.specs.Machine.{Flag, s, f, Stage, stage0, stage1, stage2, Frame, frame, State, state, moves_of, Next, outcome, move, says, ran, run}
use Rattle.backtrack.specs.Run.{ending_says}
use Rattle.backtrack.specs.declared.Ending.{Ending}
use Rattle.backtrack.specs.declared.Registers.{Registers}
use Rattle.backtrack.specs.declared.Move.{Move}
use Rattle.backtrack.specs.declared.Move.TheVariants.{Pop, Push}
use Rattle.std.specs.declared.ops.ControlFlow.{ControlFlow}
use Rattle.std.specs.declared.ops.ControlFlow.TheVariants.{Break, Continue}

-- "A lent slice of 32-bit numbers holds three a frame": variable, start, stage.
abbrev pub stage_of : ℕ → Stage
stage_of n = cond (eqb n 0) stage0 (cond (eqb n 1) stage1 stage2)

-- The stack, the top first, of d frames of which the slice has the lowest first.
unfoldable pub stack_in : List ℕ → ℕ → List Frame
stack_in frames zero = []
stack_in frames (suc d) =
    frame (get_or frames (d * 3) 0) (get_or frames (d * 3 + 1) 0) (stage_of (get_or frames (d * 3 + 2) 0)) ∷ stack_in frames d

-- "flag s or f"
abbrev pub flag_of : Bool → Flag
flag_of true = s
flag_of false = f

-- The machine's state: the registers, and the stack in the slice.
abbrev pub state_in : List ℕ → Registers → State
state_in frames x = state (flag_of x.flag) x.position x.moves (stack_in frames x.depth)

-- ---- What holds before each move.

-- A kind 4 rule.
abbrev pub Calls : Rule → Type 0
Calls R = (B : ℕ) × (C : ℕ) × (D : ℕ) × (R ≡ call B C D)

-- Each frame is of a variable that has a word, and one at stage 1 of a kind 4 rule.
abbrev pub Sound : (ℕ → Rule) → List Frame → Type 0
Sound rule [] = Unit {0}
Sound rule (frame A i stage ∷ stack) = (1 ≤ A) × (A ≤ 256) × (stage ≡ stage1 → Calls (rule A)) × Sound rule stack

-- The frames lie in the slice, and the stack is sound.
pub record Valid (rule : ℕ → Rule) (frames : List ℕ) (x : Registers) : Type 0 where
  pub fits : x.depth * 3 ≤ length frames
  pub sound : Sound rule (stack_in frames x.depth)

-- ---- What comes next.

-- The top frame at another stage.
abbrev pub restaged : Stage → List Frame → List Frame
restaged stage [] = []
restaged stage (frame X i old ∷ stack) = frame X i stage ∷ stack

-- A frame at stage 0 pushed onto it.
abbrev pub pushed : ℕ → ℕ → ℕ → List Frame → List Frame
pushed stage A p stack = frame A p stage0 ∷ restaged (stage_of stage) stack

-- The ending says an outcome, after so many moves.
abbrev pub Says : ℕ → Outcome → Ending → Type 0
Says moves o e = ending_says e ≡ ran (says o) moves

-- The plan says what comes next after so many moves, over the stack.
abbrev pub Plans : ℕ → List Frame → Next → ControlFlow Ending Move → Type 0
Plans moves stack next (Break e) = (o : Outcome) × (next ≡ outcome o) × Says moves o e
Plans moves stack next (Continue (Pop flag q)) = next ≡ move (state (flag_of flag) q (moves + 1) (drop 1 stack))
Plans moves stack next (Continue (Push flag stage A q)) = next ≡ move (state (flag_of flag) q (moves + 1) (pushed stage A q stack))

-- ---- What a move comes to.

-- The run from x goes on from the registers y, over the frames given.
pub record Goes (rule : ℕ → Rule) (input : List ℕ) (budget room : ℕ) (x : State) (frames : List ℕ) (y : Registers) : Type 0 where
  pub valid : Valid rule frames y
  pub more : y.moves ≡ moves_of x + 1
  pub within : y.moves ≤ budget
  pub same : run rule input (budget - moves_of x) room x ≡ run rule input (budget - y.moves) room (state_in frames y)

-- The run from x ends, or it goes on.
abbrev pub Turns : (ℕ → Rule) → List ℕ → ℕ → ℕ → State → List ℕ → ControlFlow Ending Registers → Type 0
Turns rule input budget room x frames (Break e) = ending_says e ≡ run rule input (budget - moves_of x) room x
Turns rule input budget room x frames (Continue y) = Goes rule input budget room x frames y
