-- Each marked case as a correction: the question about the entry with another byte at c, and then the correction of that byte (document 02, orders 4 and
-- 10). So demand 3 of a correction asks for nothing that cannot be had. Assumes nothing.
use mathlib.Core.Bool.{Bool, false, cond}
use mathlib.Core.List.{List, Memᴰ, [], ◌∷◌}
use mathlib.Core.Path.{◌≡◌, refl, sym, ap, ◌∙◌, subst}
use Prim.Native.Nat.{ℕ, ◌+◌, ◌*◌, ◌≤◌, ◌<◌}
use native.Mathlib.Omega.{arith}
use lib.Dec.{eqb, ltb}
use lib.ListN.{length, set, length-set}
use Rattle.std.specs.Prelude.{Result as Results}
use Rattle.grammar.specs.Printing.{text}
use Rattle.grammar.specs.Refusal.{accepted, checked, from}
use Rattle.grammar.specs.Sheet.{Grammar, grammar_of, condition}
use Rattle.grammar.specs.declared.refusal.Refusal.{Refusal}
use Rattle.grammar.proofs.Accepted.{describes}
use Rattle.schema.specs.Cases.{Case, cases, first_pair, sheet_h}
use Rattle.schema.specs.Derivation.{Pair, ◌at◌, success, result}
use Rattle.schema.specs.Handed.{pair_variable_out, pair_position_out, slices_short, call_condition, handed_condition, handed_order, handed, question_of}
use Rattle.schema.specs.Table.{cells}
use Rattle.schema.proofs.Cases.{cases_hold}
use Rattle.schema.proofs.Handed.{handed_sheet}
use Rattle.finish.specs.Reply.{Reply, reply, told}
use Rattle.finish.specs.declared.Answer.{Answer}
use Rattle.memo.specs.Answer.{QuestionPromise}
use Rattle.memo.proofs.Promised.{case_accepted, question_answers, cells_a}
use Rattle.kept.specs.Kept.{retained}
use Rattle.kept.proofs.Changed.{differs_set, differs_back}
use Rattle.kept.proofs.Differing.{if_differs}
use Rattle.correction.specs.Correction.{CorrectionPromise}
use Rattle.correction.proofs.Promised as promised
use Rattle.correction.proofs.Promised.{question_kept}
use Rattle.demands.specs.Demands.{Demand3Kept}
use Rattle.demands.proofs.Kept.{case_replied, demanded_kept}

-- Of its input a question's refusals ask for the length only: their conditions by that,
abbrev condition_at : Grammar → Pair → ℕ → ℕ → ℕ → ℕ → ℕ → Bool
condition_at g x table work n number line =
    cond (eqb number 6) (ltb 4096 n)
    (cond (eqb number 8) (pair_variable_out g.variables x)
    (cond (eqb number 9) (pair_position_out n x)
    (cond (eqb number 10) (slices_short (cells g.variables n) (table, work))
    (cond (eqb number 11) false
    false))))

-- and so the question's answer to them.
by_length : (s input other : List ℕ) (x : Pair) (table work : ℕ) → length input ≡ length other
    → handed s (question_of input x table work) ≡ handed s (question_of other x table work)
unfolding call_condition handed_condition handed
by_length s input other x table work e = ap (λ (n : ℕ). checked (from 6 (condition_at (grammar_of s) x table work n) (condition s)) (handed_order s) (grammar_of s)) e

-- The outcome and the named pair are the case's, and demand 3 holds.
pub corrected_case : (m : Case) → Memᴰ m cases → (c b : ℕ) → c < length m.input → (table table' work work' : List ℕ) (r : Results Answer Refusal)
    → 2 * cells (grammar_of (text m.lines)).variables (length m.input) ≤ length table
    → cells (grammar_of (text m.lines)).variables (length m.input) ≤ length work
    → QuestionPromise (text m.lines) (set m.input c b) 1 0 table table' work work' r
    → (after work₂ work₂' : List ℕ) (q : Results Answer Refusal) → cells (grammar_of (text m.lines)).variables (length m.input) ≤ length work₂
    → CorrectionPromise (text m.lines) (set m.input c b) m.input 1 0 c table' after work₂ work₂' q
    → (count : ℕ) × (told q ≡ accepted (reply m.outcome m.named count))
    × Demand3Kept (text m.lines) m.input (1 at 0) (grammar_of (text m.lines)) (retained (c + 1) (length m.input) table') after (reply m.outcome m.named count)
corrected_case m member c b below table table' work work' r room work_room asks after work₂ work₂' q work-room₂ corrects =
    let s = text m.lines in
    let input = m.input in
    let old = set input c b in
    let h = cases_hold m member in
    let g = h.grammar in
    let is : grammar_of s ≡ g = (describes s g (handed_sheet s (question_of input first_pair 2048 1024) g h.reads)).grammar_is in
    let accepts : handed s (question_of old (1 at 0) (length table) (length work)) ≡ accepted g =
    by_length s old input (1 at 0) (length table) (length work) (length-set input c b) ∙ case_accepted m member (length table) (length work) room work_room ∙ ap accepted is in
    let size : length table' ≡ length table = (question_answers s old 1 0 table work g accepts table' work' r asks).2.leaves.size in
    let room₂ = subst (λ (k : ℕ). 2 * cells (grammar_of s).variables (length input) ≤ k) (sym size) room in
    let accepts₂ : handed s (question_of input (1 at 0) (length table') (length work₂)) ≡ accepted g =
    case_accepted m member (length table') (length work₂) room₂ work-room₂ ∙ ap accepted is in
    let reads = handed_sheet s (question_of old (1 at 0) (length table) (length work)) g accepts in
    let kept = question_kept s old 1 0 table table' work work' r asks g accepts in
    let same = if_differs c old input (differs_back c input old (differs_set c b input)) in
    let corrected = promised.kept_accepted s old input 1 0 c table' work₂ g reads kept accepts₂ below same in
    let call = promised.correction s old input 1 0 c table' work₂ g corrected after work₂' q corrects in
    let k = call.from_kept kept in
    let says = case_replied m member k in
    let start = retained (c + 1) (length input) table' in (
      k.count,
      call.accepts ∙ ap accepted says,
      subst (λ (u : Grammar). Demand3Kept s input (1 at 0) u start after (reply m.outcome m.named k.count)) (sym is)
          (subst (λ (a : Reply). Demand3Kept s input (1 at 0) g start after a) says (demanded_kept s input 1 0 (length table') (length work₂) g accepts₂ k)),
    )

-- `-7.` read with sheet H, and its 7 corrected to a 6, which makes it case a: success ending 3.
pub corrected_a : (table table' work work' : List ℕ) (r : Results Answer Refusal) → 48 ≤ length table → 24 ≤ length work
    → QuestionPromise (text sheet_h) (45 ∷ 55 ∷ 46 ∷ []) 1 0 table table' work work' r
    → (after work₂ work₂' : List ℕ) (q : Results Answer Refusal) → 24 ≤ length work₂ → CorrectionPromise (text sheet_h) (45 ∷ 55 ∷ 46 ∷ []) (45 ∷ 54 ∷ 46 ∷ []) 1 0 1 table' after work₂ work₂' q
    → (count : ℕ) × (told q ≡ accepted (reply (result (success 3)) (0 at 0) count))
unfolding cases
corrected_a table table' work work' r room work_room asks after work₂ work₂' q work-room₂ corrects =
    let found =
    corrected_case _ (Memᴰ.head refl) 1 55 (omega arith) table table' work work' r (rw cells_a room) (rw cells_a work_room) asks after work₂ work₂' q
    (rw cells_a work-room₂) corrects in
    (found.0, found.1)
