-- Demands 1 and 3 of a correction and of a further question: of any results that meet their contracts. Document 02, order 8: "Demand 3 holds for a further
-- question or a correction from a kept table, and is promised from no other". Assumes nothing.
use mathlib.Core.Bool.{false}
use mathlib.Core.List.{List, Memᴰ}
use mathlib.Core.Logic.{◌↔◌}
use mathlib.Core.Path.{◌≡◌, refl, ap, ◌∙◌, subst}
use Prim.Native.Nat.{ℕ, ◌+◌, ◌*◌, ◌≤◌, ◌<◌}
use lib.ListN.{length}
use Rattle.std.specs.Prelude.{Result as Results, Option as Maybe}
use Rattle.grammar.specs.Printing.{text}
use Rattle.grammar.specs.Refusal.{Checked, refused, accepted}
use Rattle.grammar.specs.Sheet.{Grammar, grammar_of}
use Rattle.grammar.specs.declared.refusal.Refusal.{Refusal}
use Rattle.grammar.proofs.Accepted.{describes}
use Rattle.schema.specs.Cases.{Case, cases, first_pair}
use Rattle.schema.specs.Derivation.{Pair, ◌at◌, Outcome}
use Rattle.schema.specs.Handed.{handed, question_of, verdict_of, writer_of}
use Rattle.schema.specs.Reached.{Named}
use Rattle.schema.specs.Table.{cells, contents}
use Rattle.schema.proofs.Cases.{cases_hold}
use Rattle.schema.proofs.Handed.{handed_sheet, handed_pair}
use Rattle.schema.proofs.Laws.{has_one, named_one, number_one}
use Rattle.schema.proofs.SheetClosed.{sheet_closed, start_within}
use Rattle.rules.proofs.Admitted.{question_accepted}
use Rattle.finish.specs.Reply.{Reply, reply, told}
use Rattle.finish.specs.declared.Answer.{Answer}
use Rattle.memo.proofs.Promised.{case_accepted}
use Rattle.verdict.specs.Verdict.{numbers, Judges, VerdictPromise}
use Rattle.verdict.specs.declared.Judgement.{Judgement}
use Rattle.opening.specs.Opening as opening
use Rattle.opening.specs.Opening.{Finds, OpeningPromise}
use Rattle.writer.specs.Writer as writer
use Rattle.writer.specs.Writer.{RepliesWriting, lines_in, WriterPromise}
use Rattle.writer.specs.declared.Written.{Written}
use Rattle.kept.specs.Differs.{differs_elsewhere}
use Rattle.kept.specs.Kept.{retained, Blank, KeptTable, blank, asked}
use Rattle.kept.proofs.Filled.{new_all}
use Rattle.correction.specs.Call.{KeptAnswers}
use Rattle.correction.specs.Correction.{CorrectionPromise}
use Rattle.correction.specs.Further.{FurtherPromise}
use Rattle.correction.specs.Refusals.{CorrectionRefuses, FurtherRefuses}
use Rattle.correction.proofs.Answered as answered
use Rattle.correction.proofs.Promised as promised
use Rattle.correction.proofs.Promised.{answers_kept}
use Rattle.correction.proofs.PromisedFurther as further
use Rattle.demands.specs.Demands.{Demand3Kept}
use Rattle.demands.proofs.Demand3.{demanded}

-- ---- Of any call whose table was kept.

pub demanded_kept : (s input : List ℕ) (A p tables works : ℕ) (g : Grammar) → handed s (question_of input (A at p) tables works) ≡ accepted g
    → {start : Pair → ℕ × ℕ} {table table' : List ℕ} {a : Reply} → KeptAnswers g.rule g.variables input (A at p) start table table' a
    → Demand3Kept s input (A at p) g start table' a
demanded_kept s input A p tables works g accepts k =
    let call = question_of input (A at p) tables works in
    record {
      demand =
          demanded s input (A at p) g (question_accepted s call g A p accepts refl) (answered.outcome_exactly k) k.leaves.holds (answered.count_new k)
          (answered.count_most k (sheet_closed s g (handed_sheet s call g accepts)) (handed_pair s call g accepts (A at p) refl));
      cells_filled = answered.filled_exactly k;
      cells_right = k.right;
    }

-- ---- The correction.

module _ (s old input : List ℕ) (A p c : ℕ) (table work table' work' : List ℕ) (r : Results Answer Refusal) (promise : CorrectionPromise s old input A p c table table' work work' r) where
  -- Demand 1: refused with a number exactly under its condition, and then both slices are as they were.
  pub demand_1_correct : (x l : ℕ) → ((told r ≡ refused x l) ↔ CorrectionRefuses s old input (A at p) c table (length work) x l)
      × (told r ≡ refused x l → (table' ≡ table) × (work' ≡ work))
  demand_1_correct x l = (promised.refused_exactly s old input A p c table work table' work' r promise x l, promised.then_unchanged s old input A p c table work table' work' r promise x l)

  -- Demand 3, from a kept table of the old entry, of any question that is not refused, where c is the position of a byte and the two entries do not differ
  -- elsewhere: no correction is refused but under 18, 21 and what refuses the question.
  pub demand_3_correct : (g : Grammar) → handed s (question_of input (A at p) (length table) (length work)) ≡ accepted g → c < length input
      → differs_elsewhere c old input ≡ false → KeptTable g.rule g.variables old table
      → (a : Reply) × (told r ≡ accepted a) × Demand3Kept s input (A at p) g (retained (c + 1) (length input) table) table' a
  demand_3_correct g accepts below same kept =
      let reads = handed_sheet s (question_of input (A at p) (length table) (length work)) g accepts in
      let call = promised.correction s old input A p c table work g (promised.kept_accepted s old input A p c table work g reads kept accepts below same) table' work' r promise in
      (call.replies, call.accepts, demanded_kept s input A p (length table) (length work) g accepts (call.from_kept kept))

-- ---- The further question.

module _ (s input : List ℕ) (A p : ℕ) (table work table' work' : List ℕ) (r : Results Answer Refusal) (promise : FurtherPromise s input A p table table' work work' r) where
  -- Demand 1.
  pub demand_1_further : (x l : ℕ) → ((told r ≡ refused x l) ↔ FurtherRefuses s input (A at p) table (length work) x l)
      × (told r ≡ refused x l → (table' ≡ table) × (work' ≡ work))
  demand_1_further x l = (further.refused_exactly s input A p table work table' work' r promise x l, further.then_unchanged s input A p table work table' work' r promise x l)

  -- Demand 3, from a kept table, of any question that is not refused.
  pub demand_3_further : (g : Grammar) → handed s (question_of input (A at p) (length table) (length work)) ≡ accepted g → KeptTable g.rule g.variables input table
      → (a : Reply) × (told r ≡ accepted a) × Demand3Kept s input (A at p) g (contents (length input) table) table' a
  demand_3_further g accepts kept =
      let call = further.kept_call s input A p table work table' work' r promise g accepts kept in
      (call.replies, call.accepts, demanded_kept s input A p (length table) (length work) g accepts (call.from_kept kept))

-- ---- Kept tables that other calls leave than question, correction and further question: each of these asks a question.

pub verdict_kept : (s input table table' work work' : List ℕ) (r : Results Judgement Refusal) → VerdictPromise s input table table' work work' r
    → (g : Grammar) → handed s (verdict_of input (length table) (length work)) ≡ accepted g → KeptTable g.rule g.variables input table'
verdict_kept s input table table' work work' r promise g e =
    answers_kept (start_within s g (handed_sheet s _ g e)) (subst (λ (o : Checked Grammar). Judges o input table table' work work' (numbers r)) e promise).2.2

pub writer_kept : (s input : List ℕ) (A p : ℕ) (table table' work work' out out' : List ℕ) (r : Results Written Refusal) → WriterPromise s input A p table table' work work' out out' r
    → (g : Grammar) → handed s (writer_of input (A at p) (length table) (length work) (length out)) ≡ accepted g → KeptTable g.rule g.variables input table'
writer_kept s input A p table table' work work' out out' r promise g e =
    answers_kept (handed_pair s _ g e (A at p) refl)
    (subst (λ (o : Checked Grammar). RepliesWriting o input (A at p) table table' work work' out out' (writer.told r) (lines_in r)) e promise).2

pub opening_kept : (s input table table' work work' : List ℕ) (r : Results (Maybe ℕ) Refusal) → OpeningPromise s input table table' work work' r
    → (g : Grammar) → handed s (verdict_of input (length table) (length work)) ≡ accepted g → KeptTable g.rule g.variables input table'
opening_kept s input table table' work work' r promise g e =
    asked (start_within s g (handed_sheet s _ g e)) (subst (λ (o : Checked Grammar). Finds o input table table' work work' (opening.told r)) e promise).2.leaves

-- ---- Each marked case over a kept table: it is answered as document 01 says,

pub case_replied : (c : Case) (m : Memᴰ c cases) {v : ℕ} {start : Pair → ℕ × ℕ} {table table' : List ℕ} {a : Reply}
    → (k : KeptAnswers (cases_hold c m).grammar.rule v c.input (1 at 0) start table table' a) → a ≡ reply c.outcome c.named k.count
case_replied c m k =
    let h = cases_hold c m in
    let rule = h.grammar.rule in
    let o : k.outcome ≡ c.outcome = has_one rule c.input (1 at 0) k.outcome c.outcome k.has h.has in
    let z : k.named ≡ c.named =
    named_one rule c.input (1 at 0) k.named c.named c.outcome (subst (λ (u : Outcome). Named rule c.input (1 at 0) u k.named) o k.names) h.names in
    k.says ∙ rw (o, z)

-- and as a further question over a blank one with the same count.

pub further_case : (c : Case) → Memᴰ c cases → (table table' work work' : List ℕ) (r : Results Answer Refusal)
    → 2 * cells (grammar_of (text c.lines)).variables (length c.input) ≤ length table
    → cells (grammar_of (text c.lines)).variables (length c.input) ≤ length work
    → Blank (grammar_of (text c.lines)).variables (length c.input) table
    → FurtherPromise (text c.lines) c.input 1 0 table table' work work' r → told r ≡ accepted (reply c.outcome c.named c.count)
further_case c m table table' work work' r e f empty promise =
    let h = cases_hold c m in
    let s = text c.lines in
    let g = h.grammar in
    let same : grammar_of s ≡ g = (describes s g (handed_sheet s (question_of c.input first_pair 2048 1024) g h.reads)).grammar_is in
    let accepts : handed s (question_of c.input (1 at 0) (length table) (length work)) ≡ accepted g =
    case_accepted c m (length table) (length work) e f ∙ ap accepted same in
    let none : Blank g.variables (length c.input) table = subst (λ (k : Grammar). Blank k.variables (length c.input) table) same empty in
    let call = further.kept_call s c.input 1 0 table work table' work' r promise g accepts (blank none) in
    let k = call.from_kept (blank none) in
    let closed = sheet_closed s g (handed_sheet s _ g accepts) in
    let within = handed_pair s (question_of c.input (1 at 0) (length table) (length work)) g accepts (1 at 0) refl in
    let counts = new_all g.rule c.input g.variables k.leaves closed within (λ B q w. ap (λ (j : ℕ × ℕ). j.0) (none B q w)) k.counts in
    call.accepts ∙ ap accepted (case_replied c m k ∙ ap (reply c.outcome c.named) (number_one counts h.counts))
