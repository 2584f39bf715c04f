-- What one turn of the loop comes to is what the machine's run comes to. Assumes nothing.
use mathlib.Core.Bool.{Bool, true, false}
use mathlib.Core.List.{List, [], ◌∷◌}
use mathlib.Core.Path.{◌≡◌, refl, sym, ap, ◌∙◌}
use Prim.Native.Nat.{ℕ, zero, suc, ◌+◌, ◌-◌, ◌*◌, ◌/◌, ◌<◌, ◌≤◌}
use native.Mathlib.Nat.{suc-ne-zero}
use native.Mathlib.Omega.{arith}
use lib.ListN.{length, drop}
use Rattle.grammar.specs.Rule.{Rule}
use Rattle.grammar.specs.Words.{rule_in}
use Rattle.schema.specs.Derivation.{Outcome}
use Rattle.schema.specs.Machine.{Stage, Frame, frame, State, state, outcome, move, step, spent, no_frame, ran, run}
use Rattle.backtrack.specs.Run.{ending_says}
use Rattle.backtrack.specs.Frames.{flag_of, stage_of, stack_in, state_in, Valid, restaged, pushed, Says, Plans, Goes}
use Rattle.backtrack.specs.declared.Ending.{Ending}
use Rattle.backtrack.specs.declared.Move.{Move}
use Rattle.backtrack.specs.declared.Move.TheVariants.{Pop, Push}
use Rattle.backtrack.specs.declared.Registers.{Registers}
use Rattle.std.specs.declared.ops.ControlFlow.TheVariants.{Continue}
use Rattle.backtrack.proofs.Stack.{stack_top, length_stack}
use Rattle.backtrack.proofs.Sound.{sound_move}
use Rattle.backtrack.proofs.Unrolled.{run_outcome, run_spent, run_full, run_on}

-- ---- A move needs a frame.

move_deep : (rule : ℕ → Rule) (input xs : List ℕ) (flag : Bool) (p d m : ℕ) (y : State)
    → step rule input (state (flag_of flag) p m (stack_in xs d)) ≡ move y → 0 < d
unfolding step stack_in
move_deep rule input xs true p zero m y e = absurd (suc-ne-zero 0 (cc))
move_deep rule input xs false p zero m y e = absurd (suc-ne-zero 0 (cc))
move_deep rule input xs flag p (suc d) m y e = omega arith

length_restaged : (stage : Stage) (stack : List Frame) → length (restaged stage stack) ≡ length stack
length_restaged stage [] = refl
length_restaged stage (frame X i old ∷ stack) = refl

-- ---- One turn, from valid registers x over the frames xs.

module _ (ws input xs : List ℕ) (budget : ℕ) (x : Registers) (h : Valid (rule_in ws) xs x) where
  abbrev here : State
  here = state_in xs x

  abbrev left : ℕ
  left = budget - x.moves

  abbrev room : ℕ
  room = length xs / 3

  -- There is an outcome.
  pub turn_outcome : (e : Ending) (o : Outcome) → step (rule_in ws) input here ≡ outcome o → Says x.moves o e
      → ending_says e ≡ run (rule_in ws) input left room here
  turn_outcome e o at same = same ∙ sym (run_outcome (rule_in ws) input left room here o at)

  -- The budget is used.
  pub turn_spent : (next : Move) → Plans x.moves (stack_in xs x.depth) (step (rule_in ws) input here) (Continue next) → left ≡ 0
      → ran spent x.moves ≡ run (rule_in ws) input left room here
  turn_spent (Pop flag q) at z = sym (run_spent (rule_in ws) input left room here _ z at)
  turn_spent (Push flag stage A q) at z = sym (run_spent (rule_in ws) input left room here _ z at)

  -- A frame is to be popped or pushed, so there is one.
  pub turn_deep : (y : State) → step (rule_in ws) input here ≡ move y → 0 < x.depth
  turn_deep y at = move_deep (rule_in ws) input xs x.flag x.position x.depth x.moves y at

  -- A push lacks room.
  pub turn_full : (flag : Bool) (stage A q : ℕ)
      → step (rule_in ws) input here ≡ move (state (flag_of flag) q (x.moves + 1) (pushed stage A q (stack_in xs x.depth))) → 0 < left
      → length xs - x.depth * 3 < 3 → ran no_frame x.moves ≡ run (rule_in ws) input left room here
  turn_full flag stage A q at some full =
      let a = length_restaged (stage_of stage) (stack_in xs x.depth) in
      let b = length_stack xs x.depth in
      sym (run_full (rule_in ws) input left room here _ some at (omega arith))

  -- The move is made.
  turn_moved : (xs' : List ℕ) (y : Registers) → step (rule_in ws) input here ≡ move (state_in xs' y) → y.moves ≡ x.moves + 1 → 0 < left
      → length xs' ≡ length xs → y.depth * 3 ≤ length xs → Goes (rule_in ws) input budget room here xs' y
  turn_moved xs' y at one some same fits =
      let b = length_stack xs' y.depth in
      record {
        valid = record { fits = omega arith; sound = sound_move ws input here (state_in xs' y) at h.sound };
        more = one;
        within = omega arith;
        same = run_on (rule_in ws) input left (budget - y.moves) room here (state_in xs' y) (omega arith) at (omega arith);
      }

  -- The top frame is popped.
  pub turn_popped : (flag : Bool) (q : ℕ)
      → step (rule_in ws) input here ≡ move (state (flag_of flag) q (x.moves + 1) (drop 1 (stack_in xs x.depth))) → 0 < left
      → Goes (rule_in ws) input budget room here xs record { flag = flag; position = q; moves = x.moves + 1; depth = x.depth - 1 }
  turn_popped flag q at some =
      let deep = turn_deep _ at in
      let below : drop 1 (stack_in xs x.depth) ≡ stack_in xs (x.depth - 1) = rw (stack_top xs x.depth deep) in
      let k = h.fits in
      turn_moved xs _ (at ∙ ap (λ stack. move (state (flag_of flag) q (x.moves + 1) stack)) below) refl some refl (omega arith)

  -- A frame is pushed.
  pub turn_pushed : (flag : Bool) (stage A q : ℕ) (xs' : List ℕ)
      → step (rule_in ws) input here ≡ move (state (flag_of flag) q (x.moves + 1) (pushed stage A q (stack_in xs x.depth))) → 0 < left
      → 3 ≤ length xs - x.depth * 3 → length xs' ≡ length xs → stack_in xs' (x.depth + 1) ≡ pushed stage A q (stack_in xs x.depth)
      → Goes (rule_in ws) input budget room here xs' record { flag = flag; position = q; moves = x.moves + 1; depth = x.depth + 1 }
  turn_pushed flag stage A q xs' at some fits same made =
      turn_moved xs' _ (at ∙ ap (λ stack. move (state (flag_of flag) q (x.moves + 1) stack)) (sym made)) refl some same (omega arith)
