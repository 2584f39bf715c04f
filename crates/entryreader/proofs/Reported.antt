-- The numbers of the exported question, correction and further question. Assumes nothing.
use mathlib.Core.List.{List}
use mathlib.Core.Path.{◌≡◌, refl, sym, ap, ◌∙◌, subst}
use Prim.Native.Nat.{ℕ, ◌+◌, ◌≤◌}
use native.Mathlib.Omega.{arith}
use lib.ListN.{length}
use Rattle.grammar.specs.Refusal.{Checked, refused, accepted}
use Rattle.grammar.specs.Sheet.{Grammar}
use Rattle.schema.specs.Derivation.{Pair, ◌at◌, Outcome}
use Rattle.schema.specs.Exported.{returned, reported, Fits}
use Rattle.schema.specs.Handed.{handed, question_of}
use Rattle.schema.specs.Table.{code, contents}
use Rattle.schema.proofs.Handed.{handed_input, handed_pair}
use Rattle.schema.proofs.Small.{refusal_small, code_small}
use Rattle.finish.specs.Reply.{Reply, outcome_of, told}
use Rattle.memo.specs.Answer.{Replies, QuestionPromise}
use Rattle.std.specs.Prelude.{Result}
use Rattle.grammar.specs.declared.refusal.Refusal.{Refusal}
use Rattle.finish.specs.declared.Answer.{Answer}
use Rattle.memo.proofs.Promised.{one_result}
use Rattle.kept.specs.Kept.{retained}
use Rattle.correction.specs.Call as call
use Rattle.correction.specs.Call.{KeptOf}
use Rattle.correction.specs.Correction.{CorrectionPromise}
use Rattle.correction.specs.Further.{FurtherPromise}
use Rattle.correction.specs.Refusals.{correction_condition, correction_order, correctable, further_condition, further_order, askable}
use Rattle.correction.proofs.Refusing.{call_small, question_accepted, correction_late, further_late}
use Rattle.reports.specs.Numbers.{reply_code, question_numbers}
use Rattle.entryreader.specs.Codes.{QuestionNumbers}

module _ (s input : List ℕ) (A p : ℕ) (table table' work work' : List ℕ) where
  -- The numbers of an answer fit 32 bits.
  pub answer_fits : (r : Result Answer Refusal) → QuestionPromise s input A p table table' work work' r → Fits reply_code (told r)
  answer_fits r promise = by_sheet (handed s (question_of input (A at p) (length table) (length work))) refl promise
    where
      by_sheet : (o : Checked Grammar) → handed s (question_of input (A at p) (length table) (length work)) ≡ o
          → Replies o input (A at p) table table' work work' (told r) → Fits reply_code (told r)
      by_sheet (refused x l) e m = let k = refusal_small s _ x l e in subst (Fits reply_code) (sym m.0) (omega arith)
      by_sheet (accepted g) e m =
          let a = m.2 in
          let k = code_small g.rule input A p a.outcome (handed_pair s _ g e (A at p) refl).position (handed_input s _ g e) a.has in
          subst (Fits reply_code) (sym m.1) (subst (λ (o : Outcome). code o ≤ 10001) (sym (ap outcome_of a.says)) (omega arith))

-- Those of a call over a table that may hold anything fit too: from any table its code is at most 5 + n.
call_fits : (found : Checked Grammar) (input : List ℕ) (x : Pair) (Kept : Grammar → Type 0) (start : Pair → ℕ × ℕ) (table table' work work' : List ℕ) (t : Checked Reply)
    → ((y l : ℕ) → found ≡ refused y l → y ≤ 26) → ((g : Grammar) → found ≡ accepted g → length input ≤ 4096)
    → call.Replies found input x Kept start table table' work work' t → Fits reply_code t
call_fits found input x Kept start table table' work work' t small short promise = by_sheet found refl promise
  where
    by_sheet : (o : Checked Grammar) → found ≡ o → call.Replies o input x Kept start table table' work work' t → Fits reply_code t
    by_sheet (refused y l) e m = subst (Fits reply_code) (sym m.0) (small y l e)
    by_sheet (accepted g) e m = let few = short g e in subst (Fits reply_code) (sym m.accepts) (omega (arith, m.small))

pub correction_fits : (s old input : List ℕ) (A p c : ℕ) (table table' work work' : List ℕ) (r : Result Answer Refusal) → CorrectionPromise s old input A p c table table' work work' r
    → Fits reply_code (told r)
correction_fits s old input A p c table table' work work' r promise =
    let own = correction_condition old input c table in
    call_fits (correctable s old input (A at p) c table (length work)) input (A at p) (KeptOf old table) (retained (c + 1) (length input) table) table table' work work' (told r)
    (call_small s input (A at p) (length table) (length work) own correction_order 26 (omega arith) (omega arith, (omega arith, (omega arith, tt))))
    (λ g e. handed_input s _ g (question_accepted s input (A at p) (length table) (length work) own correction_order correction_late g e)) promise

pub further_fits : (s input : List ℕ) (A p : ℕ) (table table' work work' : List ℕ) (r : Result Answer Refusal) → FurtherPromise s input A p table table' work work' r → Fits reply_code (told r)
further_fits s input A p table table' work work' r promise =
    let own = further_condition input table in
    call_fits (askable s input (A at p) table (length work)) input (A at p) (KeptOf input table) (contents (length input) table) table table' work work' (told r)
    (call_small s input (A at p) (length table) (length work) own further_order 26 (omega arith) (omega arith, tt))
    (λ g e. handed_input s _ g (question_accepted s input (A at p) (length table) (length work) own further_order further_late g e)) promise

-- One result only: the same number, the same four numbers and the same table.
pub one_report : (s input : List ℕ) (A p : ℕ) (table table' table'' work work' work'' answer answer' answer'' : List ℕ) (r t : ℕ)
    → QuestionNumbers s input A p table table' work work' answer answer' r → QuestionNumbers s input A p table table'' work work'' answer answer'' t
    → (r ≡ t) × (answer' ≡ answer'') × (table' ≡ table'')
one_report s input A p table table' table'' work work' work'' answer answer' answer'' r t one other =
    let same = one_result s input A p table work table' table'' work' work'' one.found other.found one.promise other.promise in (
      one.returns ∙ ap returned same.0 ∙ sym other.returns,
      one.reports ∙ ap (reported question_numbers answer) same.0 ∙ sym other.reports,
      same.1,
    )
