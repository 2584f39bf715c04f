-- Demand 1: each call is refused with a number exactly under document 01's condition, where no condition that comes earlier in the order holds,
-- and every lent slice is then as it was; of any results that meet the calls' contracts: machine, verdict and checker. Question and writer have the same
-- beside their promises. Assumes nothing.
use mathlib.Core.List.{List, ◌∷◌}
use mathlib.Core.Logic.{◌↔◌}
use mathlib.Core.Path.{◌≡◌, refl, sym, ap, ◌∙◌, subst}
use Prim.Native.Nat.{ℕ}
use native.Mathlib.Omega.{arith}
use lib.ListN.{length}
use Rattle.std.specs.Prelude.{Result as Results, Ok, Err}
use Rattle.grammar.specs.Refusal.{Checked, refused, accepted}
use Rattle.grammar.specs.Sheet.{Grammar}
use Rattle.grammar.specs.Order.{FirstHolds}
use Rattle.grammar.specs.declared.refusal.Refusal.{Refusal}
use Rattle.schema.specs.Derivation.{Pair, ◌at◌}
use Rattle.schema.specs.Handed.{handed, asked, verdict_of}
use Rattle.schema.specs.Machine.{Ran}
use Rattle.schema.proofs.Codes.{verdict_code_most}
use Rattle.schema.proofs.Following.{Follows}
use Rattle.finish.specs.Reply.{Reply, reply}
use Rattle.verdict.specs.Verdict.{numbers, judged, Judges, VerdictPromise}
use Rattle.verdict.specs.declared.Judgement.{Judgement}
use Rattle.verdict.specs.declared.Judgement.TheVariants.{Recognised, Partial, Failure, Loop, Missing}
use Rattle.backtrack.specs.Run as run
use Rattle.backtrack.specs.declared.Ending.{Ending}
use Rattle.checker.specs.Checker as checker
use Rattle.checker.specs.Checker.{Checks, check_condition, check_order}
use Rattle.checker.specs.declared.Claim.{Claim}
use Rattle.checker.specs.declared.Rejection.{Rejection}
use Rattle.checker.proofs.CheckRefusals.{check_refused_exactly}
use Rattle.demands.specs.Demands.{verdict_told}

-- ---- The machine.

pub run_follows : (s input : List ℕ) (x : Pair) (frames frames' : List ℕ) (budget : ℕ) (r : Results Ending Refusal) → run.Runs s input x frames frames' budget r
    → Follows Ran s (asked input x) (run.told r) (frames' ≡ frames)
run_follows s input x frames frames' budget r promise = record {
  refused_as = λ y l e. given (refused y l) e;
  accepted_as = λ g e. let k = given (accepted g) e in (_, k.answer);
}
  where
    given : (o : Checked Grammar) → handed s (asked input x) ≡ o → run.Comes o input x frames frames' budget r
    given o e = subst (λ (o : Checked Grammar). run.Comes o input x frames frames' budget r) e promise

-- ---- The verdict.

head_same : {a b : ℕ} {xs ys : List ℕ} → (a ∷ xs) ≡ (b ∷ ys) → a ≡ b
head_same e = cc

told_refused : (r : Results Judgement Refusal) (n x l : ℕ) → numbers r ≡ judged n (refused x l) → verdict_told r ≡ refused x l
told_refused (Err f) n x l e = cc
told_refused (Ok (Recognised q count)) n x l e = let h = head_same e in absurd (omega arith)
told_refused (Ok (Partial q count)) n x l e = let h = head_same e in absurd (omega arith)
told_refused (Ok (Failure count)) n x l e = let h = head_same e in absurd (omega arith)
told_refused (Ok (Loop A p count)) n x l e = let h = head_same e in absurd (omega arith)
told_refused (Ok (Missing A p count)) n x l e = let h = head_same e in absurd (omega arith)

told_accepted : (r : Results Judgement Refusal) (n : ℕ) (a : Reply) → numbers r ≡ judged n (accepted a) → (b : List ℕ) × (verdict_told r ≡ accepted b)
told_accepted (Err f) n (reply o (A at p) count) e = let h = head_same e in let m = verdict_code_most n o in absurd (omega arith)
told_accepted (Ok j) n a e = (numbers (Ok j), refl)

pub verdict_follows : (s input table table' work work' : List ℕ) (r : Results Judgement Refusal) → VerdictPromise s input table table' work work' r
    → Follows (List ℕ) s (verdict_of input (length table) (length work)) (verdict_told r) ((table' ≡ table) × (work' ≡ work))
verdict_follows s input table table' work work' r promise = record {
  refused_as = λ x l e. let k = given (refused x l) e in (told_refused r (length input) x l k.0, (k.1, k.2));
  accepted_as = λ g e. let k = given (accepted g) e in let a = k.2 in told_accepted r (length input) a.0 (k.1 ∙ ap (judged (length input)) a.1);
}
  where
    given : (o : Checked Grammar) → handed s (verdict_of input (length table) (length work)) ≡ o → Judges o input table table' work work' (numbers r)
    given o e = subst (λ (o : Checked Grammar). Judges o input table table' work work' (numbers r)) e promise

-- ---- The checker, which is lent nothing.

pub check_refused : (s input : List ℕ) (x : Pair) (reading : List ℕ) (r : Results Claim Rejection) → Checks s input x reading r
    → (y l : ℕ) → (checker.told r ≡ refused y l) ↔ FirstHolds (check_condition s input x reading) (check_order s reading) y l
check_refused s input x reading r promise y l =
    let c = check_refused_exactly s input x reading y l in
    (λ e. c.0 (sym promise ∙ e), λ f. promise ∙ c.1 f)
