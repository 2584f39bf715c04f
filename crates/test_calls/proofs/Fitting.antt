-- The numbers of the machine fit 32 bits. Assumes nothing.
use mathlib.Core.List.{List}
use mathlib.Core.Path.{◌≡◌, refl, sym, subst}
use Prim.Native.Nat.{ℕ, ◌≤◌}
use native.Mathlib.Omega.{arith}
use Rattle.grammar.specs.Refusal.{Checked, refused, accepted}
use Rattle.grammar.specs.Sheet.{Grammar}
use Rattle.schema.specs.Derivation.{◌at◌}
use Rattle.schema.specs.Exported.{Fits}
use Rattle.schema.specs.Handed.{asked, handed}
use Rattle.schema.specs.Machine.{says, spent, no_frame, Ran, ran}
use Rattle.schema.proofs.Small.{refusal_small}
use Rattle.backtrack.specs.Run.{told as ended, Comes, Runs}
use Rattle.std.specs.Prelude.{Result}
use Rattle.grammar.specs.declared.refusal.Refusal.{Refusal}
use Rattle.backtrack.specs.declared.Ending.{Ending}
use Rattle.backtrack.proofs.Call as machine
use Rattle.reports.proofs.Fitting.{accepted_code}
use Rattle.test_calls.specs.Numbers.{ran_code}

module _ (s input : List ℕ) (A p : ℕ) (frames frames' : List ℕ) (budget : ℕ) (r : Result Ending Refusal) (runs : Runs s input (A at p) frames frames' budget r) where
  run_ended : (g : Grammar) → handed s (asked input (A at p)) ≡ accepted g → (a : Ran) → ended r ≡ accepted a → ran_code a ≤ 10001
  run_ended g e (ran (says o) moves) f =
      accepted_code s _ g A p e refl o (machine.call_derived s input (A at p) frames frames' budget r runs g e o (moves, f))
  run_ended g e (ran spent moves) f = omega arith
  run_ended g e (ran no_frame moves) f = omega arith

  pub run_fits : Fits ran_code (ended r)
  run_fits = by_sheet (handed s (asked input (A at p))) refl runs
    where
      by_sheet : (o : Checked Grammar) → handed s (asked input (A at p)) ≡ o → Comes o input (A at p) frames frames' budget r → Fits ran_code (ended r)
      by_sheet (refused x l) e m = let k = refusal_small s _ x l e in subst (Fits ran_code) (sym m.0) (omega arith)
      by_sheet (accepted g) e m = subst (Fits ran_code) (sym m.answer) (run_ended g e _ m.answer)
