-- Document 01, "The backtracking machine". Assumes nothing.
use Rattle.std.specs.Prelude.{true, false, List, [], ◌∷◌, ℕ, zero, suc, ◌+◌, leb, length}
use Rattle.grammar.specs.Rule.{Rule}
use Rattle.schema.specs.Derivation.{Pair, ◌at◌, Result, success, failure, Act, gives, stops, calls, act, Outcome, result, stopped}

-- "flag s or f"
pub data Flag : Type 0 where
  s f : Flag

-- "stage 0", "stage 1", "stage 2"
pub data Stage : Type 0 where
  stage0 stage1 stage2 : Stage

-- "frames (variable, start, stage)"
pub data Frame : Type 0 where
  frame : ℕ → ℕ → Stage → Frame

-- "flag s or f, a place, moves made, a stack of frames", the top first.
pub data State : Type 0 where
  state : Flag → ℕ → ℕ → List Frame → State

-- The moves made.
abbrev pub moves_of : State → ℕ
moves_of (state flag p moves stack) = moves

-- The stack.
abbrev pub stack_of : State → List Frame
stack_of (state flag p moves stack) = stack

-- What comes next: an outcome, or one move.
pub data Next : Type 0 where
  outcome : Outcome → Next
  move : State → Next

-- "pop, flag s and the place advanced by what it took, or flag f"
abbrev pub popped : Result → ℕ → ℕ → List Frame → State
popped (success q) p moves stack = state s q moves stack
popped failure p moves stack = state f p moves stack

-- The operand C of a kind 4 rule; no other rule is at stage 1.
abbrev pub operand_c : Act → ℕ
operand_c (gives r) = 0
operand_c (stops w) = 0
operand_c (calls B C D) = C

-- The operand D.
abbrev pub operand_d : Act → ℕ
operand_d (gives r) = 0
operand_d (stops w) = 0
operand_d (calls B C D) = D

-- "stage 0, no rule: missing; .. no moves"; "other leaf: pop"; "kind 4: stage 1, push B at the place"
abbrev pub stage0_of : Act → Flag → ℕ → ℕ → ℕ → ℕ → List Frame → Next
stage0_of (stops w) flag X i p moves stack = outcome (stopped w)
stage0_of (gives r) flag X i p moves stack = move (popped r p (moves + 1) stack)
stage0_of (calls B C D) flag X i p moves stack = move (state flag p (moves + 1) (frame B p stage0 ∷ frame X i stage1 ∷ stack))

module _ (rule : ℕ → Rule) (input : List ℕ) where
  -- One step.
  unfoldable pub step : State → Next
  -- "empty stack: success ending at the place if s, failure if f"
  step (state s p moves []) = outcome (result (success p))
  step (state f p moves []) = outcome (result failure)
  step (state flag p moves (frame X i stage0 ∷ stack)) = stage0_of (act rule input (X at p)) flag X i p moves stack
  -- "stage 1: on s push C at the place; on f go back to i and push D; stage 2; flag s"
  step (state s p moves (frame X i stage1 ∷ stack)) =
      move (state s p (moves + 1) (frame (operand_c (act rule input (X at i))) p stage0 ∷ frame X i stage2 ∷ stack))
  step (state f p moves (frame X i stage1 ∷ stack)) =
      move (state s i (moves + 1) (frame (operand_d (act rule input (X at i))) i stage0 ∷ frame X i stage2 ∷ stack))
  -- "stage 2: pop; on f go back to i"
  step (state s p moves (frame X i stage2 ∷ stack)) = move (state s p (moves + 1) stack)
  step (state f p moves (frame X i stage2 ∷ stack)) = move (state f i (moves + 1) stack)

-- "The result carries the outcome, the end on success, and the moves", or spent or no frame in place of an outcome.
pub data RunOutcome : Type 0 where
  says : Outcome → RunOutcome
  spent no_frame : RunOutcome

-- What a run ends with, and its moves.
pub data Ran : Type 0 where
  ran : RunOutcome → ℕ → Ran

module _ (rule : ℕ → Rule) (input : List ℕ) where
  -- "before each step: an outcome if there is one, then *spent* if moves equal the budget .., then *no frame* if a push lacks room";
  -- left is the budget less the moves made.
  unfoldable pub run : ℕ → ℕ → State → Ran
  run zero room x = elim (step rule input x) [ outcome o ↦ ran (says o) (moves_of x) | move y ↦ ran spent (moves_of x) ]
  run (suc left) room x =
      elim (step rule input x) [
        | outcome o ↦ ran (says o) (moves_of x)
        | move y ↦ elim (leb (length (stack_of y)) room) [ true ↦ run left room y | false ↦ ran no_frame (moves_of x) ]
      ]

  -- "It starts with one frame at stage 0, flag s, the asked place, 0 moves." "room 0 gives no frame before all else"
  unfoldable pub machine : Pair → ℕ → ℕ → Ran
  machine (A at p) budget zero = ran no_frame 0
  machine (A at p) budget (suc room) = run budget (suc room) (state s p 0 (frame A p stage0 ∷ []))
