-- The exported verdict's code. Assumes nothing.
use mathlib.Core.List.{List, Memᴰ}
use mathlib.Core.Path.{◌≡◌, refl, sym, ap, ◌∙◌, subst}
use Prim.Native.Nat.{ℕ, ◌≤◌}
use native.Mathlib.Omega.{arith}
use lib.ListN.{length}
use borrow.Author.Tests.{ne_eqb}
use Rattle.grammar.specs.Refusal.{Checked, refused, accepted}
use Rattle.grammar.specs.Sheet.{Grammar}
use Rattle.grammar.specs.Printing.{text}
use Rattle.schema.specs.Cases.{Case, cases, first_pair, judged}
use Rattle.schema.specs.Derivation.{Pair, ◌at◌, Outcome, Has}
use Rattle.schema.specs.Exported.{exported}
use Rattle.schema.specs.Handed.{Handed, handed, question_of, verdict_of}
use Rattle.schema.specs.Verdict.{verdict_code}
use Rattle.schema.proofs.Cases.{cases_hold}
use Rattle.schema.proofs.Codes.{verdict_code_most}
use Rattle.schema.proofs.Handed.{handed_sheet}
use Rattle.schema.proofs.Laws.{has_one}
use Rattle.schema.proofs.Small.{refusal_small}
use Rattle.finish.specs.Reply.{reply}
use Rattle.verdict.specs.Verdict.{numbers, Judges, VerdictPromise}
use Rattle.verdict.specs.Verdict as verdict
use Rattle.std.specs.Prelude.{Result}
use Rattle.grammar.specs.declared.refusal.Refusal.{Refusal}
use Rattle.verdict.specs.declared.Judgement.{Judgement}
use Rattle.entryreader.specs.Codes.{Coded, VerdictCode, code_of}

-- A code is at most 111.
pub coded_small : (s input : List ℕ) (h : Handed) (r : ℕ) → Coded (handed s h) input r → r ≤ 111
coded_small s input h r m = by_sheet (handed s h) refl m
  where
    by_sheet : (o : Checked Grammar) → handed s h ≡ o → Coded o input r → r ≤ 111
    by_sheet (refused x l) e m = let k = refusal_small s h x l e in omega arith
    by_sheet (accepted g) e m = let k = verdict_code_most (length input) m.0 in let q = m.2 in omega arith

-- The code in the numbers of a verdict is that of its outcome.
outcome_code : (n : ℕ) (o : Outcome) (z : Pair) (count : ℕ) → code_of (verdict.judged n (accepted (reply o z count))) ≡ verdict_code n o
outcome_code n o (A at p) count = let k = verdict_code_most n o in rw (ne_eqb (verdict_code n o) 9 (λ e. omega arith)) refl

-- The code of a verdict is the one that is exported for slices of these lengths.
pub verdict_coded : (s input table table' work work' : List ℕ) (j : Result Judgement Refusal) → VerdictPromise s input table table' work work' j
    → Coded (handed s (verdict_of input (length table) (length work))) input (code_of (numbers j))
verdict_coded s input table table' work work' j promise = by_sheet (handed s (verdict_of input (length table) (length work))) promise
  where
    by_sheet : (o : Checked Grammar) → Judges o input table table' work work' (numbers j) → Coded o input (code_of (numbers j))
    by_sheet (refused x l) m = ap code_of m.0
    by_sheet (accepted g) m =
        let a = m.2.2 in
        (a.outcome, a.has, ap code_of (m.1 ∙ ap (verdict.judged (length input)) (m.2.1 ∙ ap accepted a.says)) ∙ outcome_code (length input) a.outcome a.named _)

-- One code only.
pub one_code : (s input : List ℕ) (r t : ℕ) → VerdictCode s input r → VerdictCode s input t → r ≡ t
one_code s input r t one other = by_sheet (handed s (verdict_of input 2048 1024)) one other
  where
    by_sheet : (o : Checked Grammar) → Coded o input r → Coded o input t → r ≡ t
    by_sheet (refused x l) m k = m ∙ sym k
    by_sheet (accepted g) m k = m.2 ∙ ap (verdict_code (length input)) (has_one g.rule input (g.start at 0) m.0 k.0 m.1 k.1) ∙ sym k.2

-- Every marked case has the code that document 01 gives, or 100 plus its refusal.
pub case_coded : (c : Case) → Memᴰ c cases → (r : ℕ) → VerdictCode (text c.lines) c.input r → r ≡ exported (λ k. k) c.verdict
case_coded c m r d = by_sheet (handed (text c.lines) (verdict_of c.input 2048 1024)) refl (cases_hold c m).judges d
  where
    by_sheet : (o : Checked Grammar) → handed (text c.lines) (verdict_of c.input 2048 1024) ≡ o → judged (length c.input) c.outcome o ≡ c.verdict
        → Coded o c.input r → r ≡ exported (λ k. k) c.verdict
    by_sheet (refused x l) e j d = d ∙ ap (exported (λ k. k)) j
    by_sheet (accepted g) e j d =
        let h = cases_hold c m in
        let s = text c.lines in
        let u = handed_sheet s (verdict_of c.input 2048 1024) g e in
        let w = handed_sheet s (question_of c.input first_pair 2048 1024) h.grammar h.reads in
        let same : h.grammar ≡ g = cc in
        let has = subst (λ (k : Grammar). Has k.rule c.input (k.start at 0) c.outcome) same (rw h.starts h.has) in
        d.2 ∙ ap (verdict_code (length c.input)) (has_one g.rule c.input (g.start at 0) d.0 c.outcome d.1 has) ∙ ap (exported (λ k. k)) j
