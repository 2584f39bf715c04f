-- The law of orders 3 and 11 over results: what question and machine say of an input, the question says again where bytes are appended. Assumes nothing.
use mathlib.Core.Bool.{true≢false}
use mathlib.Core.List.{List, ◌++◌}
use mathlib.Core.Path.{◌≡◌, refl, sym, ap, ◌∙◌, subst}
use Prim.Native.Nat.{ℕ, ◌*◌, ◌≤◌}
use native.Mathlib.Omega.{arith}
use lib.ListN.{length, length-append}
use borrow.Author.Tests.{le-ltb}
use Rattle.std.specs.Prelude.{Result as Results}
use Rattle.grammar.specs.Refusal.{Checked, refused, accepted}
use Rattle.grammar.specs.Sheet.{Grammar, sheet}
use Rattle.grammar.specs.declared.refusal.Refusal.{Refusal}
use Rattle.grammar.proofs.Fitting.{within_both}
use Rattle.schema.specs.Derivation.{Pair, ◌at◌, Outcome, Has}
use Rattle.schema.specs.Handed.{Handed, handed, asked, question_of}
use Rattle.schema.specs.Machine.{says, ran}
use Rattle.schema.specs.Reached.{Named}
use Rattle.schema.specs.Table.{Within, cells}
use Rattle.schema.proofs.Handed.{handed_sheet, handed_pair}
use Rattle.schema.proofs.Tested.{asked_by, question_follows}
use Rattle.finish.specs.Reply.{Reply, reply, outcome_of, named_of, count_of, SaysSame, told}
use Rattle.finish.specs.declared.Answer.{Answer}
use Rattle.memo.specs.Answer.{Answers, Replies, QuestionPromise}
use Rattle.memo.proofs.Result.{count_is, outcome_is, answer_is}
use Rattle.backtrack.specs.Run as run
use Rattle.backtrack.specs.declared.Ending.{Ending}
use Rattle.backtrack.proofs.Call.{call_derived}
use Rattle.appended.specs.Appended.{Lasting}
use Rattle.appended.specs.Answered.{AnsweredAgain}
use Rattle.appended.proofs.Appended.{comes_again}

-- ---- What a result says of its call.

-- A question that has a reply: it is accepted, and the reply answers it.
pub record Replied (s input : List ℕ) (A p : ℕ) (table table' work work' : List ℕ) (a : Reply) : Type 0 where
  pub grammar : Grammar
  pub accepts : handed s (question_of input (A at p) (length table) (length work)) ≡ accepted grammar
  pub answers : Answers grammar.rule grammar.variables input (A at p) table table' work work' a

pub replied : (s input : List ℕ) (A p : ℕ) (table table' work work' : List ℕ) (r : Results Answer Refusal) → QuestionPromise s input A p table table' work work' r
    → (a : Reply) → told r ≡ accepted a → Replied s input A p table table' work work' a
replied s input A p table table' work work' r promise a e = by_sheet (handed s (question_of input (A at p) (length table) (length work))) refl promise
  where
    by_sheet : (o : Checked Grammar) → handed s (question_of input (A at p) (length table) (length work)) ≡ o
        → Replies o input (A at p) table table' work work' (told r) → Replied s input A p table table' work work' a
    by_sheet (refused x l) f m = let q = m.0 in absurd (true≢false (cc))
    by_sheet (accepted g) f m =
        let q = m.1 in
        let same : m.0 ≡ a = cc in
        record { grammar = g; accepts = f; answers = subst (Answers g.rule g.variables input (A at p) table table' work work') same m.2 }

-- What is accepted is one grammar.
pub accepted_one : {c : Checked Grammar} {g k : Grammar} → c ≡ accepted g → c ≡ accepted k → g ≡ k
accepted_one e f = cc

-- The sheet is accepted, and the pair has the outcome.
record Given (s input : List ℕ) (x : Pair) (o : Outcome) : Type 0 where
  grammar : Grammar
  reads : sheet s ≡ accepted grammar
  has : Has grammar.rule input x o

-- So it is where a run names an outcome.
run_given : (s input : List ℕ) (x : Pair) (frames frames' : List ℕ) (budget : ℕ) (r : Results Ending Refusal) → run.Runs s input x frames frames' budget r
    → (o : Outcome) (moves : ℕ) → run.told r ≡ accepted (ran (says o) moves) → Given s input x o
run_given s input x frames frames' budget r runs o moves e = by_sheet (handed s (asked input x)) refl runs
  where
    by_sheet : (c : Checked Grammar) → handed s (asked input x) ≡ c → run.Comes c input x frames frames' budget r → Given s input x o
    by_sheet (refused y l) f m = let q = m.0 in absurd (true≢false (cc))
    by_sheet (accepted g) f m = record {
      grammar = g;
      reads = handed_sheet s (asked input x) g f;
      has = call_derived s input x frames frames' budget r runs g f o (moves, e);
    }

-- ---- What it says again.

module _ (s input added : List ℕ) (A p : ℕ) where
  -- The question about the longer input, with its reply.
  module _ {table table' work work' : List ℕ} {b : Reply} (longer : Replied s (input ++ added) A p table table' work work' b) where
    abbrev call : Handed
    call = question_of (input ++ added) (A at p) (length table) (length work)

    abbrev g : Grammar
    g = longer.grammar

    within : Within longer.grammar.variables (length (input ++ added)) A p
    within = handed_pair s call g longer.accepts (A at p) refl

    -- An outcome that is covered, on the shorter input,
    module _ {o : Outcome} (shorter : Given s input (A at p) o) (covered : Lasting shorter.grammar.rule input (A at p) o) where
      same : shorter.grammar ≡ g
      same = let e = handed_sheet s call g longer.accepts in let f = shorter.reads in cc

      has : Has g.rule input (A at p) o
      has = subst (λ (k : Grammar). Has k.rule input (A at p) o) same shorter.has

      lasting : Lasting g.rule input (A at p) o
      lasting = subst (λ (k : Grammar). Lasting k.rule input (A at p) o) same covered

      has_again : Has g.rule (input ++ added) (A at p) o
      has_again = (comes_again g.rule input added (A at p)).outcome o lasting has

      -- is the outcome of the reply,
      outcome_again : outcome_of b ≡ o
      outcome_again = (outcome_is s call g longer.accepts (A at p) within longer.answers o).0 has_again

      -- which names the same pair.
      reply_again : (z : Pair) → Named shorter.grammar.rule input (A at p) o z → b ≡ reply o z (count_of b)
      reply_again z names =
          let again = subst (λ (k : Grammar). Named k.rule input (A at p) o z) same names in
          answer_is s call g longer.accepts (A at p) within longer.answers o z (count_of b) has_again
          ((comes_again g.rule input added (A at p)).named o z lasting has again) (count_is s call g longer.accepts (A at p) within longer.answers)

  question_repeats : {table table' work work' table₂ table₂' work₂ work₂' : List ℕ} {a b : Reply} (one : Replied s input A p table table' work work' a)
      → Replied s (input ++ added) A p table₂ table₂' work₂ work₂' b → Lasting one.grammar.rule input (A at p) (outcome_of a) → SaysSame a b
  question_repeats {table = table} {work = work} {b = b} one longer covered =
      let e = one.answers.says in
      let l = subst (λ (c : Reply). Lasting one.grammar.rule input (A at p) (outcome_of c)) e covered in
      let reads = handed_sheet s (question_of input (A at p) (length table) (length work)) one.grammar one.accepts in
      let shorter : Given s input (A at p) one.answers.outcome = record { grammar = one.grammar; reads = reads; has = one.answers.has } in
      let f = reply_again longer shorter l one.answers.named one.answers.names in
      (ap outcome_of e ∙ sym (ap outcome_of f), ap named_of e ∙ sym (ap named_of f))

  -- The law of orders 3 and 11 over results.
  pub answered_again : AnsweredAgain s input added A p
  answered_again = record {
    not_refused = λ table work table₂ work₂ g accepts limit room work_room.
        let shorter = question_of input (A at p) table work in
        let w = handed_pair s shorter g accepts (A at p) refl in
        let n = length-append input added in
        let size = cells g.variables (length (input ++ added)) in
        let position : p ≤ length (input ++ added) = omega (arith, w.position) in
        let plain : handed s (asked (input ++ added) (A at p)) ≡ accepted g =
        asked_by s (input ++ added) g A p (handed_sheet s shorter g accepts) (le-ltb 4096 (length (input ++ added)) limit)
        (within_both 1 g.variables A w.variable.0 w.variable.1) (le-ltb (length (input ++ added)) p position) in
        question_follows s (input ++ added) A p table₂ work₂ (accepted g) plain ∙ rw (le-ltb table₂ (2 * size) room, le-ltb work₂ size work_room);
    question_repeats = λ table table' work work' r one table₂ table₂' work₂ work₂' r₂ two g accepts a b e f l.
        let first = replied s input A p table table' work work' r one a e in
        let same = accepted_one first.accepts accepts in
        question_repeats first (replied s (input ++ added) A p table₂ table₂' work₂ work₂' r₂ two b f)
        (subst (λ (k : Grammar). Lasting k.rule input (A at p) (outcome_of a)) (sym same) l);
    run_repeats = λ frames frames' budget r runs table table' work work' r₂ two g accepts o moves b e f l.
        let first = run_given s input (A at p) frames frames' budget r runs o moves e in
        let same = accepted_one first.reads (handed_sheet s (asked input (A at p)) g accepts) in
        outcome_again (replied s (input ++ added) A p table table' work work' r₂ two b f) first
        (subst (λ (k : Grammar). Lasting k.rule input (A at p) o) (sym same) l);
  }
