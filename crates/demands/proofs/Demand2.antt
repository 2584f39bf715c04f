-- Demand 2, of any results that meet the calls' contracts: what is named is derived, the machine's moves and frames, the checker's exactly when,
-- and "every reading we write passes". Assumes nothing.
use mathlib.Core.List.{List, [], ◌++◌}
use mathlib.Core.Logic.{◌↔◌}
use mathlib.Core.Path.{◌≡◌, refl, sym, ap, ◌∙◌, subst}
use Prim.Native.Nat.{ℕ, ◌*◌, ◌-◌, ◌/◌, ◌≤◌}
use lib.ListN.{length, take, drop}
use lib.Seq.{take-append_seam}
use Rattle.std.specs.Prelude.{Result as Results}
use Rattle.grammar.specs.Refusal.{Checked, accepted}
use Rattle.grammar.specs.Sheet.{Grammar}
use Rattle.grammar.specs.declared.refusal.Refusal.{Refusal}
use Rattle.grammar.proofs.Accepted.{grammar_in_range}
use Rattle.schema.specs.Derivation.{Pair, ◌at◌, Result, success, failure, Derives, Outcome, result, Has}
use Rattle.schema.specs.Handed.{Handed, handed, asked, verdict_of, writer_of}
use Rattle.schema.specs.Line.{Line, lines_bytes}
use Rattle.schema.specs.Machine.{says, ran}
use Rattle.schema.specs.Table.{Within}
use Rattle.rules.proofs.Admitted.{question_accepted}
use Rattle.schema.proofs.Handed.{handed_sheet, handed_input, handed_pair}
use Rattle.schema.proofs.Laws.{number_one}
use Rattle.schema.proofs.LineLength.{lines_length}
use Rattle.schema.proofs.SheetClosed.{sheet_closed}
use Rattle.finish.specs.Reply.{Reply, outcome_of, count_of}
use Rattle.writer.specs.Writer.{Visits, Writes, SaysWriting, RepliesWriting, told, lines_in, WriterPromise}
use Rattle.writer.specs.declared.Written.{Written}
use Rattle.writer.proofs.LinesNumber.{lines_number}
use Rattle.verdict.specs.Verdict.{numbers, judged, VerdictPromise}
use Rattle.verdict.specs.declared.Judgement.{Judgement}
use Rattle.verdict.proofs.Promised.{verdict_reply}
use Rattle.memo.proofs.Result.{count_is, outcome_is}
use Rattle.backtrack.specs.Run as run
use Rattle.backtrack.specs.declared.Ending.{Ending}
use Rattle.backtrack.proofs.Call as machine
use Rattle.checker.specs.Checker.{Claimed, told as passes, Checks}
use Rattle.checker.specs.Proper.{Proper, claimed, Claims}
use Rattle.checker.specs.declared.Claim.{Claim}
use Rattle.checker.specs.declared.Rejection.{Rejection}
use Rattle.checker.proofs.Call as checker
use Rattle.demands.specs.Demands.{claimed_outcome}
use Rattle.demands.proofs.Passing.{visit_proper}

-- ---- "Success and failure come where it derives them and nowhere else."

-- What the machine names.
pub machine_derived : (s input : List ℕ) (x : Pair) (frames frames' : List ℕ) (budget : ℕ) (r : Results Ending Refusal) → run.Runs s input x frames frames' budget r
    → (g : Grammar) → handed s (asked input x) ≡ accepted g → (o : Outcome) (moves : ℕ) → run.told r ≡ accepted (ran (says o) moves) → Has g.rule input x o
machine_derived s input x frames frames' budget r runs g e o moves names = machine.call_derived s input x frames frames' budget r runs g e o (moves, names)

claimed_outcome_law : (x : Pair) (t : Result) → claimed_outcome (claimed x t) ≡ result t
claimed_outcome_law (A at p) (success q) = refl
claimed_outcome_law (A at p) failure = refl

-- What a passed reading claims.
pub claim_derived : (s input : List ℕ) (x : Pair) (reading : List ℕ) (r : Results Claim Rejection) → Checks s input x reading r
    → (g : Grammar) → handed s (asked input x) ≡ accepted g → (c : Claimed) → passes r ≡ accepted c → Has g.rule input x (claimed_outcome c)
claim_derived s input x reading r checks g e c q =
    let t = checker.call_claims s input x reading r checks g e c q in
    let h = checker.call_derived s input x reading r checks g e t.0 t.1 in
    let f = t.1 in
    let same : c ≡ claimed x t.0 = cc in
    subst (Has g.rule input x) (sym (ap claimed_outcome same ∙ claimed_outcome_law x t.0)) h

-- The outcome of which a verdict gives the numbers is the one that the start variable has at 0.
pub verdict_derived : (s input table table' work work' : List ℕ) (r : Results Judgement Refusal) → VerdictPromise s input table table' work work' r
    → (g : Grammar) → handed s (verdict_of input (length table) (length work)) ≡ accepted g
    → (a : Reply) × (numbers r ≡ judged (length input) (accepted a)) × ((o : Outcome) → (outcome_of a ≡ o) ↔ Has g.rule input (g.start at 0) o)
verdict_derived s input table table' work work' r promise g e =
    let v = verdict_reply s input table work g e table' work' r promise in
    (v.0, v.1, λ o. ((v.3 o).1, (v.3 o).0))

-- The writer's outcome is the one that the pair has.
pub written_derived : (s input : List ℕ) (A p : ℕ) (table table' work work' out out' : List ℕ) (r : Results Written Refusal) → WriterPromise s input A p table table' work work' out out' r
    → (g : Grammar) → handed s (writer_of input (A at p) (length table) (length work) (length out)) ≡ accepted g
    → (a : Reply) × (told r ≡ accepted a) × ((o : Outcome) → (outcome_of a ≡ o) ↔ Has g.rule input (A at p) o)
written_derived s input A p table table' work work' out out' r promise g accepts =
    let call = writer_of input (A at p) (length table) (length work) (length out) in
    let wrote =
    subst (λ (o : Checked Grammar). RepliesWriting o input (A at p) table table' work work' out out' (told r) (lines_in r)) accepts promise in
    let is =
    outcome_is s call g accepts (A at p) (handed_pair s call g accepts (A at p) refl) wrote.2 in
    (wrote.0, wrote.1, λ o. ((is o).1, (is o).0))

-- ---- "exactly when".

-- "The backtracking machine gives the outcome of a k-step derivation exactly when it is lent at least 2k - 1 moves and as many frames as the
-- derivation is high."
pub machine_exactly : (s input : List ℕ) (x : Pair) (frames frames' : List ℕ) (budget : ℕ) (r : Results Ending Refusal) → run.Runs s input x frames frames' budget r
    → (g : Grammar) → handed s (asked input x) ≡ accepted g → {t : Result} {k h : ℕ} → Derives g.rule input x t k h
    → ((moves : ℕ) × (run.told r ≡ accepted (ran (says (result t)) moves))) ↔ ((2 * k - 1 ≤ budget) × (h ≤ length frames / 3))
machine_exactly s input x frames frames' budget r runs g e d = (machine.call_exactly s input x frames frames' budget r runs g e d).1

-- "The checker passes a reading exactly when each line follows from a rule and earlier lines and the last is the pair in question".
pub checker_exactly : (s input : List ℕ) (x : Pair) (reading : List ℕ) (r : Results Claim Rejection) → Checks s input x reading r
    → (g : Grammar) → handed s (asked input x) ≡ accepted g → (t : Result) → Claims r x t ↔ Proper g input reading x t
checker_exactly s input x reading r checks g e t = checker.call_exactly s input x reading r checks g e t

-- ---- "every reading we write passes."

-- The lines of a pair that has a result, handed to the checker, pass, with this result.
pub lines_pass : (s input : List ℕ) (A p : ℕ) (g : Grammar) → handed s (asked input (A at p)) ≡ accepted g → (t : Result) → Has g.rule input (A at p) (result t)
    → (ls : List Line) → Visits g.rule input [] (A at p) ls → (c : Results Claim Rejection) → Checks s input (A at p) (lines_bytes ls) c → Claims c (A at p) t
lines_pass s input A p g accepts t has ls visits c checks =
    let sheet = handed_sheet s (asked input (A at p)) g accepts in
    let few = (grammar_in_range s g sheet).1 in
    let short = handed_input s (asked input (A at p)) g accepts in
    let within = handed_pair s (asked input (A at p)) g accepts (A at p) refl in
    (checker_exactly s input (A at p) (lines_bytes ls) c checks g accepts t).1 (visit_proper g input (sheet_closed s g sheet) few short ls within has visits)

module _ (s input : List ℕ) (A p : ℕ) (table table' work work' out out' : List ℕ) (r : Results Written Refusal)
    (promise : WriterPromise s input A p table table' work work' out out' r)
    (g : Grammar) (accepts : handed s (writer_of input (A at p) (length table) (length work) (length out)) ≡ accepted g)
    (a : Reply) (answers : told r ≡ accepted a) (t : Result) (succeeds : outcome_of a ≡ result t) where
  abbrev call : Handed
  call = writer_of input (A at p) (length table) (length work) (length out)

  wrote : SaysWriting g.rule g.variables input (A at p) table table' work work' out out' (told r) (lines_in r)
  wrote =
      subst (λ (o : Checked Grammar). RepliesWriting o input (A at p) table table' work work' out out' (told r) (lines_in r)) accepts promise

  same : wrote.0 ≡ a
  same = let e = wrote.1 in cc

  writes : Writes g.rule input (A at p) (result t) out out' (lines_in r)
  writes = subst (λ (o : Outcome). Writes g.rule input (A at p) o out out' (lines_in r)) (ap outcome_of same ∙ succeeds) wrote.3

  within : Within g.variables (length input) A p
  within = handed_pair s call g accepts (A at p) refl

  -- There are as many lines as decided cells.
  pub lines_are_cells : lines_in r ≡ count_of a
  lines_are_cells =
      writes.counted ∙ number_one (lines_number g.rule input writes.ordered) (count_is s call g accepts (A at p) within wrote.2) ∙ ap count_of same

  has : Has g.rule input (A at p) (result t)
  has = (outcome_is s call g accepts (A at p) within wrote.2 (result t)).1 (ap outcome_of same ∙ succeeds)

  reading_is : take (49 * lines_in r) out' ≡ lines_bytes writes.lines
  reading_is =
      let ls = writes.lines in
      let e : 49 * lines_in r ≡ length (lines_bytes ls) = ap (λ (k : ℕ). 49 * k) writes.counted ∙ sym (lines_length ls) in
      ap (take (49 * lines_in r)) writes.written ∙ ap (λ (k : ℕ). take k (lines_bytes ls ++ drop (49 * length ls) out)) e ∙ take-append_seam (lines_bytes ls) (drop (49 * length ls) out)

  -- What was written, handed to the checker for the same question, passes, with the same outcome and end.
  pub written_passes : (c : Results Claim Rejection) → Checks s input (A at p) (take (49 * lines_in r) out') c → Claims c (A at p) t
  written_passes c checks =
      lines_pass s input A p g (question_accepted s call g A p accepts refl) t has writes.lines writes.ordered c
      (subst (λ (bytes : List ℕ). Checks s input (A at p) bytes c) reading_is checks)
