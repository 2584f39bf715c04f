-- Demand 1 for the exported calls, of any number that meets their contracts: "or with one numbered refusal under exactly the condition in document 01,
-- its table and output then unchanged". Assumes nothing.
use mathlib.Core.List.{List, [], ◌∷◌}
use mathlib.Core.Logic.{◌≢◌, ◌↔◌}
use mathlib.Core.Path.{◌≡◌, refl, ap, ◌∙◌, subst}
use Prim.Native.Nat.{ℕ, ◌+◌, ◌≤◌}
use native.Mathlib.Omega.{arith}
use lib.ListN.{length}
use Rattle.grammar.specs.Refusal.{Checked, refused, accepted}
use Rattle.grammar.specs.Order.{FirstHolds}
use Rattle.grammar.specs.Promise.{line_one, stored}
use Rattle.grammar.specs.Sheet.{Grammar, condition, sheet_order, sheet}
use Rattle.grammar.proofs.SheetRefusals.{sheet_refused}
use Rattle.schema.specs.Derivation.{◌at◌}
use Rattle.schema.specs.Exported.{returned, reported}
use Rattle.schema.specs.Handed.{Handed, Refuses, handed, question_of, verdict_of, writer_of}
use Rattle.schema.proofs.CallRefusals.{call_refused}
use Rattle.schema.proofs.Codes.{verdict_code_most}
use Rattle.schema.proofs.Following as called
use Rattle.schema.proofs.Following.{Follows}
use Rattle.finish.specs.Reply.{Reply, told}
use Rattle.memo.proofs.Following.{question_follows}
use Rattle.verdict.specs.Verdict.{numbers, Judges}
use Rattle.writer.specs.Writer.{told as wrote, lines_in}
use Rattle.writer.proofs.Following.{write_follows}
use Rattle.checker.specs.Checker.{check_condition, check_order, check}
use Rattle.checker.proofs.CheckRefusals.{check_refused_exactly}
use Rattle.reports.specs.Numbers.{question_numbers, writer_numbers, WriterNumbers, claim_numbers, CheckNumbers}
use Rattle.std.specs.Prelude.{Result}
use Rattle.grammar.specs.declared.refusal.Refusal.{Refusal}
use Rattle.finish.specs.declared.Answer.{Answer}
use Rattle.correction.specs.Refusals.{CorrectionRefuses, FurtherRefuses}
use Rattle.correction.proofs.Promised as promised
use Rattle.correction.proofs.PromisedFurther as further
use Rattle.entryreader.specs.Codes.{sheet_numbers, SheetNumbers, Coded, code_of, JudgeNumbers, AnswerNumbers, QuestionNumbers, CorrectionNumbers, FurtherNumbers}
use Rattle.entryreader.proofs.Coded.{verdict_coded}

-- A number that is 100 plus the number of a refusal, or small where nothing is refused.
pub record Numbered {A : Type 0} (o : Checked A) (most r : ℕ) : Type 0 where
  pub refused_as : (x l : ℕ) → o ≡ refused x l → r ≡ 100 + x
  pub accepted_as : (a : A) → o ≡ accepted a → r ≤ most

-- By when a call is refused.
module _ {A : Type 0} (o : Checked A) (When : ℕ → ℕ → Type 0) (exactly : (x l : ℕ) → (o ≡ refused x l) ↔ When x l) {most r : ℕ} (numbered : Numbered o most r)
    (few : most ≤ 99) where
  -- It is 100 plus x exactly where the first condition that holds is that of the number x, at some line,
  pub refused_exactly : (x : ℕ) → (r ≡ 100 + x) ↔ ((l : ℕ) × When x l)
  refused_exactly x = (λ e. by_answer e o refl, λ f. numbered.refused_as x f.0 ((exactly x f.0).1 f.1))
    where
      by_answer : r ≡ 100 + x → (t : Checked A) → o ≡ t → (l : ℕ) × When x l
      by_answer e (refused y l) q =
          let n = numbered.refused_as y l q in
          let same : y ≡ x = omega arith in
          (l, (exactly x l).0 (q ∙ ap (λ (z : ℕ). refused z l) same))
      by_answer e (accepted a) q = let n = numbered.accepted_as a q in absurd (omega arith)

  -- and small exactly where none holds.
  pub answered_exactly : (r ≤ most) ↔ ((x l : ℕ) → ¬ When x l)
  answered_exactly = (λ n x l f. let e = numbered.refused_as x l ((exactly x l).1 f) in omega arith, λ none. by_answer none o refl)
    where
      by_answer : ((x l : ℕ) → ¬ When x l) → (t : Checked A) → o ≡ t → r ≤ most
      by_answer none (refused x l) q = absurd (none x l ((exactly x l).0 q))
      by_answer none (accepted a) q = numbered.accepted_as a q

-- A call that returns 0 where nothing is refused.
module _ {A : Type 0} (o : Checked A) (When : ℕ → ℕ → Type 0) (exactly : (x l : ℕ) → (o ≡ refused x l) ↔ When x l) {r : ℕ} (returns : r ≡ returned o) where
  returned_numbered : Numbered o 0 r
  returned_numbered = record {
    refused_as = λ x l e. returns ∙ ap returned e;
    accepted_as = λ a e. let q : r ≡ 0 = returns ∙ ap returned e in omega arith;
  }

  -- 100 plus x exactly under the condition of x,
  pub returned_refused : (x : ℕ) → (r ≡ 100 + x) ↔ ((l : ℕ) × When x l)
  returned_refused = refused_exactly o When exactly returned_numbered (omega arith)

  -- and 0 else.
  pub returned_answered : (r ≡ 0) ↔ ((x l : ℕ) → ¬ When x l)
  returned_answered =
      let a = answered_exactly o When exactly returned_numbered (omega arith) in
      (λ e. a.0 (omega arith), λ none. let n = a.1 none in omega arith)

-- Where it does not return 0 it is refused,
pub refused_then : {A : Type 0} (t : Checked A) {r : ℕ} → r ≡ returned t → r ≢ 0 → (x : ℕ) × (l : ℕ) × (t ≡ refused x l)
refused_then (refused x l) returns d = (x, l, refl)
refused_then (accepted a) returns d = absurd (d returns)

-- and the answer is as it was.
returned_unchanged : {A : Type 0} (t : Checked A) (numbers : A → List ℕ) (answer answer' : List ℕ) (r : ℕ) → r ≡ returned t → answer' ≡ reported numbers answer t → r ≢ 0
    → (x : ℕ) × (l : ℕ) × (t ≡ refused x l) × (answer' ≡ answer)
returned_unchanged t numbers answer answer' r returns reports d =
    let k = refused_then t returns d in
    (k.0, k.1, k.2, reports ∙ ap (reported numbers answer) k.2)

-- The same of a call that answers as `handed` says.
module _ {A : Type 0} {s : List ℕ} {h : Handed} {t : Checked A} {unchanged : Type 0} (follows : Follows A s h t unchanged) {r : ℕ} (returns : r ≡ returned t) where
  pub follows_refused : (x : ℕ) → (r ≡ 100 + x) ↔ ((l : ℕ) × Refuses s h x l)
  follows_refused = returned_refused t (Refuses s h) (called.refused_exactly follows) returns

  pub follows_answered : (r ≡ 0) ↔ ((x l : ℕ) → ¬ Refuses s h x l)
  follows_answered = returned_answered t (Refuses s h) (called.refused_exactly follows) returns

  -- Where it does not return 0, everything is as it was, the answer too.
  pub follows_unchanged : (numbers : A → List ℕ) (answer answer' : List ℕ) → answer' ≡ reported numbers answer t → r ≢ 0 → unchanged × (answer' ≡ answer)
  follows_unchanged numbers answer answer' reports d =
      let k = returned_unchanged t numbers answer answer' r returns reports d in
      (called.then_unchanged follows k.0 k.1 k.2, k.3)

-- ---- The sheet.

module _ (s answer' words words' : List ℕ) (r : ℕ) (promise : SheetNumbers s answer' words words' r) where
  -- 100 plus x exactly under the condition of x,
  pub sheet_call_refused : (x : ℕ) → (r ≡ 100 + x) ↔ ((l : ℕ) × FirstHolds (condition s) (sheet_order s) x l)
  sheet_call_refused = returned_refused (sheet s) (FirstHolds (condition s) (sheet_order s)) (sheet_refused s) promise.returns

  -- 0 else,
  pub sheet_call_answered : (r ≡ 0) ↔ ((x l : ℕ) → ¬ FirstHolds (condition s) (sheet_order s) x l)
  sheet_call_answered = returned_answered (sheet s) (FirstHolds (condition s) (sheet_order s)) (sheet_refused s) promise.returns

  -- and under a refusal the answer is its number and its line, and the words are as they were.
  pub sheet_call_unchanged : (x l : ℕ) → FirstHolds (condition s) (sheet_order s) x l → (answer' ≡ x ∷ l ∷ 0 ∷ 0 ∷ []) × (words' ≡ words)
  sheet_call_unchanged x l f =
      let e = (sheet_refused s x l).1 f in
      (promise.reports ∙ ap (λ (o : Checked Grammar). sheet_numbers (line_one o)) e, promise.stores ∙ ap (λ (o : Checked Grammar). stored o words) e)

-- ---- The verdict, over a table and a work slice of so many numbers: "it hands over sheet and entry and gets the code that starts the first line of
-- `readentry`, or 100 plus the refusal number; table and work slice are then the call's own, of 1,024 cells each."

module _ (s input : List ℕ) (tables works r : ℕ) (promise : Coded (handed s (verdict_of input tables works)) input r) where
  abbrev verdict : Handed
  verdict = verdict_of input tables works

  verdict_numbered : Numbered (handed s (verdict_of input tables works)) 5 r
  verdict_numbered = record {
    refused_as = λ x l e. given (refused x l) e;
    accepted_as = λ g e. let k = given (accepted g) e in let m = verdict_code_most (length input) k.0 in let q = k.2 in omega arith;
  }
    where
      given : (o : Checked Grammar) → handed s (verdict_of input tables works) ≡ o → Coded o input r
      given o e = subst (λ (o : Checked Grammar). Coded o input r) e promise

  -- 100 plus x exactly under the condition of x,
  pub verdict_refused : (x : ℕ) → (r ≡ 100 + x) ↔ ((l : ℕ) × Refuses s (verdict_of input tables works) x l)
  verdict_refused = refused_exactly (handed s verdict) (Refuses s verdict) (call_refused s verdict) verdict_numbered (omega arith)

  -- and 0 to 5 else.
  pub verdict_answered : (r ≤ 5) ↔ ((x l : ℕ) → ¬ Refuses s (verdict_of input tables works) x l)
  verdict_answered = answered_exactly (handed s verdict) (Refuses s verdict) (call_refused s verdict) verdict_numbered (omega arith)

-- The verdict over lent slices says the same in its four numbers; under a refusal they are 9, its number, its line and 0, and table and work slice are
-- as they were.
module _ (s input table table' work work' answer' : List ℕ) (r : ℕ) (promise : JudgeNumbers s input table table' work work' answer' r) where
  pub judge_coded : Coded (handed s (verdict_of input (length table) (length work))) input (code_of answer')
  judge_coded = rw promise.reports (verdict_coded s input table table' work work' promise.found promise.promise)

  pub judge_unchanged : (x l : ℕ) → Refuses s (verdict_of input (length table) (length work)) x l
      → (answer' ≡ 9 ∷ x ∷ l ∷ 0 ∷ []) × (table' ≡ table) × (work' ≡ work)
  judge_unchanged x l f =
      let judges : Judges (refused x l) input table table' work work' (numbers promise.found) =
      subst (λ (o : Checked Grammar). Judges o input table table' work work' (numbers promise.found))
      ((call_refused s (verdict_of input (length table) (length work)) x l).1 f) promise.promise
      in
      (promise.reports ∙ judges.0, judges.1, judges.2)

-- ---- The question.

module _ (s input : List ℕ) (A p : ℕ) (table table' work work' answer answer' : List ℕ) (r : ℕ)
    (promise : QuestionNumbers s input A p table table' work work' answer answer' r) where
  question_as : Follows Reply s (question_of input (A at p) (length table) (length work)) (told promise.found) ((table' ≡ table) × (work' ≡ work))
  question_as = question_follows s input A p table table' work work' promise.found promise.promise

  -- 100 plus x exactly under the condition of x,
  pub question_refused : (x : ℕ) → (r ≡ 100 + x) ↔ ((l : ℕ) × Refuses s (question_of input (A at p) (length table) (length work)) x l)
  question_refused = follows_refused question_as promise.returns

  -- 0 else,
  pub question_answered : (r ≡ 0) ↔ ((x l : ℕ) → ¬ Refuses s (question_of input (A at p) (length table) (length work)) x l)
  question_answered = follows_answered question_as promise.returns

  -- and under a refusal table, work slice and answer are as they were.
  pub question_unchanged : r ≢ 0 → (table' ≡ table) × (work' ≡ work) × (answer' ≡ answer)
  question_unchanged d = let k = follows_unchanged question_as promise.returns question_numbers answer answer' promise.reports d in (k.0.0, k.0.1, k.1)

-- ---- The writer.

module _ (s input : List ℕ) (A p : ℕ) (table table' work work' out out' answer answer' : List ℕ) (r : ℕ)
    (promise : WriterNumbers s input A p table table' work work' out out' answer answer' r) where
  writer_as : Follows Reply s (writer_of input (A at p) (length table) (length work) (length out)) (wrote promise.found)
      ((table' ≡ table) × (work' ≡ work) × (out' ≡ out))
  writer_as = write_follows s input A p table table' work work' out out' promise.found promise.promise

  -- 100 plus x exactly under the condition of x,
  pub write_refused : (x : ℕ) → (r ≡ 100 + x) ↔ ((l : ℕ) × Refuses s (writer_of input (A at p) (length table) (length work) (length out)) x l)
  write_refused = follows_refused writer_as promise.returns

  -- 0 else,
  pub write_answered : (r ≡ 0) ↔ ((x l : ℕ) → ¬ Refuses s (writer_of input (A at p) (length table) (length work) (length out)) x l)
  write_answered = follows_answered writer_as promise.returns

  -- and under a refusal table, work slice, output and answer are as they were.
  pub write_unchanged : r ≢ 0 → (table' ≡ table) × (work' ≡ work) × (out' ≡ out) × (answer' ≡ answer)
  write_unchanged d =
      let k = follows_unchanged writer_as promise.returns (writer_numbers (lines_in promise.found)) answer answer' promise.reports d in
      (k.0.0, k.0.1, k.0.2, k.1)

-- ---- The checker.

module _ (s input : List ℕ) (A p : ℕ) (reading answer answer' : List ℕ) (r : ℕ) (promise : CheckNumbers s input A p reading answer answer' r) where
  abbrev checks : ℕ → ℕ → Type 0
  checks = FirstHolds (check_condition s input (A at p) reading) (check_order s reading)

  -- 100 plus x exactly under the condition of x,
  pub check_refused : (x : ℕ) → (r ≡ 100 + x) ↔ ((l : ℕ) × FirstHolds (check_condition s input (A at p) reading) (check_order s reading) x l)
  check_refused = returned_refused (check s input (A at p) reading) checks (check_refused_exactly s input (A at p) reading) promise.returns

  -- 0 else,
  pub check_answered : (r ≡ 0) ↔ ((x l : ℕ) → ¬ FirstHolds (check_condition s input (A at p) reading) (check_order s reading) x l)
  check_answered = returned_answered (check s input (A at p) reading) checks (check_refused_exactly s input (A at p) reading) promise.returns

  -- and under a refusal the answer is as it was.
  pub check_unchanged : r ≢ 0 → answer' ≡ answer
  check_unchanged d = (returned_unchanged (check s input (A at p) reading) claim_numbers answer answer' r promise.returns promise.reports d).3

-- ---- The correction and the further question.

module _ {Promise : Result Answer Refusal → Type 0} {answer answer' : List ℕ} {r : ℕ} (numbers : AnswerNumbers Promise answer answer' r) {unchanged : Type 0}
    (then_unchanged : (x l : ℕ) → told numbers.found ≡ refused x l → unchanged) where
  -- Where such a call does not return 0, everything is as it was, the answer too.
  answer_unchanged : r ≢ 0 → unchanged × (answer' ≡ answer)
  answer_unchanged d =
      let e = returned_unchanged (told numbers.found) question_numbers answer answer' r numbers.returns numbers.reports d in
      (then_unchanged e.0 e.1 e.2, e.3)

module _ (s old input : List ℕ) (A p c : ℕ) (table table' work work' answer answer' : List ℕ) (r : ℕ)
    (promise : CorrectionNumbers s old input A p c table table' work work' answer answer' r) where
  correction_exactly : (x l : ℕ) → (told promise.found ≡ refused x l) ↔ CorrectionRefuses s old input (A at p) c table (length work) x l
  correction_exactly = promised.refused_exactly s old input A p c table work table' work' promise.found promise.promise

  -- 100 plus x exactly under the condition of x,
  pub correction_refused : (x : ℕ) → (r ≡ 100 + x) ↔ ((l : ℕ) × CorrectionRefuses s old input (A at p) c table (length work) x l)
  correction_refused = returned_refused (told promise.found) (CorrectionRefuses s old input (A at p) c table (length work)) correction_exactly promise.returns

  -- 0 else,
  pub correction_answered : (r ≡ 0) ↔ ((x l : ℕ) → ¬ CorrectionRefuses s old input (A at p) c table (length work) x l)
  correction_answered = returned_answered (told promise.found) (CorrectionRefuses s old input (A at p) c table (length work)) correction_exactly promise.returns

  -- and under a refusal table, work slice and answer are as they were.
  pub correction_unchanged : r ≢ 0 → (table' ≡ table) × (work' ≡ work) × (answer' ≡ answer)
  correction_unchanged d =
      let k = answer_unchanged promise (promised.then_unchanged s old input A p c table work table' work' promise.found promise.promise) d in
      (k.0.0, k.0.1, k.1)

module _ (s input : List ℕ) (A p : ℕ) (table table' work work' answer answer' : List ℕ) (r : ℕ)
    (promise : FurtherNumbers s input A p table table' work work' answer answer' r) where
  further_exactly : (x l : ℕ) → (told promise.found ≡ refused x l) ↔ FurtherRefuses s input (A at p) table (length work) x l
  further_exactly = further.refused_exactly s input A p table work table' work' promise.found promise.promise

  -- The same of a further question.
  pub further_refused : (x : ℕ) → (r ≡ 100 + x) ↔ ((l : ℕ) × FurtherRefuses s input (A at p) table (length work) x l)
  further_refused = returned_refused (told promise.found) (FurtherRefuses s input (A at p) table (length work)) further_exactly promise.returns

  pub further_answered : (r ≡ 0) ↔ ((x l : ℕ) → ¬ FurtherRefuses s input (A at p) table (length work) x l)
  further_answered = returned_answered (told promise.found) (FurtherRefuses s input (A at p) table (length work)) further_exactly promise.returns

  pub further_unchanged : r ≢ 0 → (table' ≡ table) × (work' ≡ work) × (answer' ≡ answer)
  further_unchanged d =
      let k = answer_unchanged promise (further.then_unchanged s input A p table work table' work' promise.found promise.promise) d in
      (k.0.0, k.0.1, k.1)
