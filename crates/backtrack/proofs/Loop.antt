-- The loop of `run_rules`: what holds at its head, and why each way through it is right. Assumes nothing.
use mathlib.Core.Bool.{true}
use mathlib.Core.List.{List, [], ◌∷◌}
use mathlib.Core.Path.{◌≡◌, refl, sym, ap, ◌∙◌}
use Prim.Native.Nat.{ℕ, ◌-◌, ◌/◌, ◌<◌, ◌≤◌}
use native.Mathlib.Nat.{suc-ne-zero}
use native.Mathlib.Omega.{arith}
use lib.ListN.{length}
use Rattle.grammar.specs.Refusal.{accepted}
use Rattle.grammar.specs.Rule.{Rule}
use Rattle.grammar.specs.Words.{rule_in}
use Rattle.schema.specs.Derivation.{◌at◌}
use Rattle.schema.specs.Machine.{frame, stage0, no_frame, ran, run, machine}
use Rattle.backtrack.specs.Run.{ending_says}
use Rattle.backtrack.specs.Frames.{stack_in, state_in, Valid, Turns}
use Rattle.backtrack.specs.declared.Ending.{Ending}
use Rattle.backtrack.specs.declared.Registers.{Registers}
use Rattle.std.specs.declared.ops.ControlFlow.TheVariants.{Break, Continue}
use Rattle.backtrack.proofs.Stack.{no_frame_law}
use Rattle.backtrack.proofs.Steps.{machine_run, machine_none}

-- At the loop's head, the frames then holding xs and now ys: the run from here comes to what the machine comes to.
pub record Head (ws input : List ℕ) (A p budget : ℕ) (xs ys : List ℕ) (x : Registers) : Type 0 where
  pub same : length ys ≡ length xs
  pub paid : x.moves ≤ budget
  pub valid : Valid (rule_in ws) ys x
  pub goes : run (rule_in ws) input (budget - x.moves) (length ys / 3) (state_in ys x) ≡ machine (rule_in ws) input (A at p) budget (length xs / 3)

-- With room for no frame.
pub no_room : (rule : ℕ → Rule) (input xs : List ℕ) (A p budget : ℕ) → length xs < 3
    → accepted (ran no_frame 0) ≡ accepted (machine rule input (A at p) budget (length xs / 3))
no_room rule input xs A p budget h =
    let z : length xs / 3 ≡ 0 = omega arith in
    rw (z, machine_none rule input (A at p) budget)

module _ (ws input : List ℕ) (A p budget : ℕ) (xs : List ℕ) where
  -- The first frame is put.
  pub begins : (fr : List ℕ) → 3 ≤ length xs → 1 ≤ A → A ≤ 256 → stack_in xs 1 ≡ frame A p stage0 ∷ stack_in fr 0
      → Head ws input A p budget xs xs record { flag = true; position = p; moves = 0; depth = 1 }
  begins fr room low high made =
      let one : stack_in xs 1 ≡ frame A p stage0 ∷ [] = made ∙ ap (λ stack. frame A p stage0 ∷ stack) (no_frame_law fr) in
      let z : budget - 0 ≡ budget = omega arith in
      record {
        same = refl;
        paid = omega arith;
        valid = record { fits = omega arith; sound = rw one (low, high, (λ e. absurd (suc-ne-zero 0 (cc))), tt) };
        goes = rw (one, z) (sym (machine_run (rule_in ws) input (A at p) budget (length xs / 3) (omega arith)));
      }

  module _ (ys : List ℕ) (x : Registers) (h : Head ws input A p budget xs ys x) where
    -- The run ends.
    pub on_end : (zs : List ℕ) (e : Ending) → Turns (rule_in ws) input budget (length ys / 3) (state_in ys x) zs (Break e)
        → accepted (ending_says e) ≡ accepted (machine (rule_in ws) input (A at p) budget (length xs / 3))
    on_end zs e t = ap (λ a. accepted a) (t ∙ h.goes)

    -- It goes on.
    pub on_move : (zs : List ℕ) (y : Registers) → length zs ≡ length ys
        → Turns (rule_in ws) input budget (length ys / 3) (state_in ys x) zs (Continue y) → Head ws input A p budget xs zs y
    on_move zs y same t = record { same = same ∙ h.same; paid = t.within; valid = t.valid; goes = rw same (sym t.same ∙ h.goes) }
