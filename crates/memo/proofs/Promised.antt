-- The theorems of a question, about any result that meets the call's contract. Assumes nothing.
use mathlib.Core.Path.{◌≡◌, refl, sym, ap, ◌∙◌, subst}
use mathlib.Core.Logic.{◌↔◌}
use mathlib.Core.List.{List, [], ◌∷◌, Memᴰ}
use Prim.Native.Nat.{ℕ, ◌*◌, ◌≤◌}
use lib.ListN.{length}
use borrow.Author.Tests.{le-ltb}
use Rattle.columns.specs.Column.{leading, column, row, digits_after, number, field, fields}
use Rattle.std.specs.Prelude.{Result}
use Rattle.grammar.specs.declared.refusal.Refusal.{Refusal}
use Rattle.grammar.specs.Refusal.{Checked, refused, accepted}
use Rattle.grammar.specs.Sheet.{Grammar, grammar_of, line_at}
use Rattle.grammar.specs.Printing.{text}
use Rattle.grammar.proofs.Accepted.{describes}
use Rattle.schema.specs.Cases.{Case, cases, sheet_h, header, first_pair}
use Rattle.schema.specs.Derivation.{◌at◌, success, Outcome, result, loop, Has}
use Rattle.schema.specs.Handed.{Handed, handed, question_of}
use Rattle.schema.specs.Reached.{Reached, Number}
use Rattle.schema.specs.Table.{Within, cells}
use Rattle.schema.proofs.Cases.{cases_hold}
use Rattle.schema.proofs.Handed.{handed_sheet, handed_pair}
use Rattle.schema.proofs.Tested.{question_follows}
use Rattle.rules.proofs.Admitted.{question_accepted}
use Rattle.finish.specs.Reply.{Reply, reply, outcome_of, count_of, told}
use Rattle.memo.specs.Answer.{Says, Replies, QuestionPromise}
use Rattle.finish.specs.declared.Answer.{Answer}
use Rattle.memo.proofs.Result.{count_is, count_most, outcome_is, answer_is, one_answer, one_table}

module _ (s input : List ℕ) (A p : ℕ) (table work : List ℕ) where
  abbrev call : Handed
  call = question_of input (A at p) (length table) (length work)

  module _ (g : Grammar) (accepts : handed s (question_of input (A at p) (length table) (length work)) ≡ accepted g) where
    within : Within g.variables (length input) A p
    within = handed_pair s call g accepts (A at p) refl

    module _ (table' work' : List ℕ) (r : Result Answer Refusal) (promise : QuestionPromise s input A p table table' work work' r) where
      -- What is not refused is answered.
      pub question_answers : Says g.rule g.variables input (A at p) table table' work work' (told r)
      question_answers = subst (λ (o : Checked Grammar). Replies o input (A at p) table table' work work' (told r)) accepts promise

      -- The count of a reply is the number of reached pairs, at most V times (n + 1); the outcome is the one that the pair has.
      pub question_reply : (a : Reply) × (told r ≡ accepted a) × Number (Reached g.rule input (A at p)) (count_of a)
          × (count_of a ≤ cells g.variables (length input)) × ((o : Outcome) → Has g.rule input (A at p) o ↔ (outcome_of a ≡ o))
      question_reply = (
        question_answers.0,
        question_answers.1,
        count_is s call g accepts (A at p) within question_answers.2,
        count_most s call g accepts (A at p) within question_answers.2,
        outcome_is s call g accepts (A at p) within question_answers.2,
      )

  -- One result only: the same answer and the same table.
  pub one_result : (table' table'' work' work'' : List ℕ) (r t : Result Answer Refusal) → QuestionPromise s input A p table table' work work' r
      → QuestionPromise s input A p table table'' work work'' t → (told r ≡ told t) × (table' ≡ table'')
  one_result table' table'' work' work'' r t one other = by_sheet (handed s call) refl one other
    where
      by_sheet : (o : Checked Grammar) → handed s call ≡ o → Replies o input (A at p) table table' work work' (told r)
          → Replies o input (A at p) table table'' work work'' (told t) → (told r ≡ told t) × (table' ≡ table'')
      by_sheet (refused x l) e m k = (m.0 ∙ sym k.0, m.1 ∙ sym k.1)
      by_sheet (accepted g) e m k = (
        m.1 ∙ ap accepted (one_answer s call g e (A at p) (within g e) m.2 k.2) ∙ sym k.1,
        one_table s call g e (A at p) (within g e) m.2 k.2,
      )

-- ---- The marked cases.

-- A marked case is accepted with any table of at least V times (n + 1) cells, two numbers each, and any work slice of as many numbers,
pub case_accepted : (c : Case) → Memᴰ c cases → (table work : ℕ) → 2 * cells (grammar_of (text c.lines)).variables (length c.input) ≤ table
    → cells (grammar_of (text c.lines)).variables (length c.input) ≤ work
    → handed (text c.lines) (question_of c.input first_pair table work) ≡ accepted (grammar_of (text c.lines))
case_accepted c m table work e f =
    let h = cases_hold c m in
    let s = text c.lines in
    let marked = question_of c.input first_pair 2048 1024 in
    let same : grammar_of s ≡ h.grammar = (describes s h.grammar (handed_sheet s marked h.grammar h.reads)).grammar_is in
    let plain = question_accepted s marked h.grammar 1 0 h.reads refl ∙ ap accepted (sym same) in
    question_follows s c.input 1 0 table work (accepted (grammar_of s)) plain ∙ rw (le-ltb table _ e, le-ltb work _ f)

-- and answered as document 01 says.
pub case_answered : (c : Case) → Memᴰ c cases → (table table' work work' : List ℕ) (r : Result Answer Refusal)
    → 2 * cells (grammar_of (text c.lines)).variables (length c.input) ≤ length table
    → cells (grammar_of (text c.lines)).variables (length c.input) ≤ length work
    → QuestionPromise (text c.lines) c.input 1 0 table table' work work' r → told r ≡ accepted (reply c.outcome c.named c.count)
case_answered c m table table' work work' r e f promise =
    let h = cases_hold c m in
    let s = text c.lines in
    let g = h.grammar in
    let marked = question_of c.input first_pair 2048 1024 in
    let accepts : handed s (question_of c.input (1 at 0) (length table) (length work)) ≡ accepted g =
    case_accepted c m (length table) (length work) e f ∙ ap accepted (describes s g (handed_sheet s marked g h.reads)).grammar_is in
    let a = question_answers s c.input 1 0 table work g accepts table' work' r promise in
    a.1 ∙ ap accepted (answer_is s (question_of c.input (1 at 0) (length table) (length work)) g accepts (1 at 0) (within s c.input 1 0 table work g accepts)
    a.2 c.outcome c.named c.count h.has h.names h.counts)

-- The 24 cells of case a.
pub cells_a : cells (grammar_of (text sheet_h)).variables 3 ≡ 24
unfolding text leading column row digits_after number field fields line_at
cells_a = refl

-- Case a: "H, `-6.`: success ending 3, 5 cells".
pub case_a : (table table' work work' : List ℕ) (r : Result Answer Refusal) → 48 ≤ length table → 24 ≤ length work
    → QuestionPromise (text sheet_h) (45 ∷ 54 ∷ 46 ∷ []) 1 0 table table' work work' r → told r ≡ accepted (reply (result (success 3)) (0 at 0) 5)
unfolding cases
case_a table table' work work' r e f promise =
    case_answered _ (Memᴰ.head refl) table table' work work' r (rw cells_a e) (rw cells_a f) promise

-- The one cell of case g.
pub cells_g : cells (grammar_of (text (header 1 ∷ (1 ∷ 4 ∷ 1 ∷ 1 ∷ 1 ∷ []) ∷ []))).variables 0 ≡ 1
unfolding text leading column row digits_after number field fields line_at
cells_g = refl

-- Case g: "Rule 1 = 1(1,1), empty entry: loop, named (1, 0), 1 cell."
pub case_g : (table table' work work' : List ℕ) (r : Result Answer Refusal) → 2 ≤ length table → 1 ≤ length work
    → QuestionPromise (text (header 1 ∷ (1 ∷ 4 ∷ 1 ∷ 1 ∷ 1 ∷ []) ∷ [])) [] 1 0 table table' work work' r → told r ≡ accepted (reply loop (1 at 0) 1)
unfolding cases
case_g table table' work work' r e f promise =
    case_answered _ (Memᴰ.tail (Memᴰ.tail (Memᴰ.tail (Memᴰ.tail (Memᴰ.tail (Memᴰ.tail
    (Memᴰ.head refl))))))) table table' work work' r (rw cells_g e) (rw cells_g f) promise
