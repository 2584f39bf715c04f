-- The admission of a question over slices, and the question from it on. Assumes nothing.
use mathlib.Core.Path.{◌≡◌, refl, sym, ap, ◌∙◌}
use mathlib.Core.Bool.{Bool, true, false, cond, ◌||◌}
use mathlib.Core.List.{List}
use Prim.Native.Nat.{ℕ, ◌*◌, ◌≤◌}
use lib.Dec.{ltb}
use lib.ListN.{length}
use native.Mathlib.Omega.{arith}
use borrow.Author.Tests.{ltb-false, le-ltb}
use Rattle.std.specs.Prelude.{Result, Ok, Err}
use Rattle.grammar.specs.Numbers.{number_of, line_of}
use Rattle.grammar.specs.Promise.{told}
use Rattle.grammar.specs.Refusal.{Checked, refused, accepted}
use Rattle.grammar.specs.Words.{rule_in}
use Rattle.grammar.specs.declared.refusal.Refusal.{Refusal}
use Rattle.grammar.specs.declared.refusal.Refusal.TheVariants.{Room}
use Rattle.grammar.specs.declared.sheet.Grammar.{Grammar as Line}
use Rattle.grammar.proofs.Fitting.{neither_true}
use Rattle.grammar.proofs.Told.{Reads, line_says_law}
use Rattle.rules.specs.Admission.{Admits, Admission}
use Rattle.rules.proofs.Admitted.{admits}
use Rattle.schema.specs.Derivation.{◌at◌}
use Rattle.schema.specs.Handed.{handed, asked, question_of}
use Rattle.schema.specs.Table.{cells}
use Rattle.schema.proofs.Handed.{handed_pair}
use Rattle.schema.proofs.Tested.{question_follows}
use Rattle.finish.specs.Reply.{Reply}
use Rattle.memo.specs.Answer.{Answers, Replies}
use Rattle.memo.specs.Ask.{AskReady}
use Rattle.memo.proofs.Ready as ready
use Rattle.memo.proofs.Ready.{not_admitted, admitted, of_grammar}

-- ---- The test of two lengths.

module _ (v n t w : ℕ) {t' w' : ℕ} where
  -- Where neither is too short, longer ones are not either;
  pub longer_enough : false ≡ (ltb t' (2 * cells v n) || ltb w' (cells v n)) → t' ≤ t → w' ≤ w → false ≡ (ltb t (2 * cells v n) || ltb w (cells v n))
  longer_enough h l m =
      let e = neither_true (ltb t' (2 * cells v n)) (ltb w' (cells v n)) (sym h) in
      let f = ltb-false t' (2 * cells v n) e.0 in
      let g = ltb-false w' (cells v n) e.1 in
      rw (le-ltb t (2 * cells v n) (omega arith), le-ltb w (cells v n) (omega arith)) refl

module _ (v n t w : ℕ) {t' w' : ℕ} where
  -- where one is, shorter ones are too.
  pub shorter_few : true ≡ (ltb t' (2 * cells v n) || ltb w' (cells v n)) → t ≤ t' → w ≤ w' → true ≡ (ltb t (2 * cells v n) || ltb w (cells v n))
  shorter_few h l m = go (ltb t (2 * cells v n) || ltb w (cells v n)) refl
    where
      go : (b : Bool) → (ltb t (2 * cells v n) || ltb w (cells v n)) ≡ b → true ≡ b
      go true e = refl
      go false e = h ∙ sym (longer_enough v n t' w' (sym e) l m)

-- ---- Its admission: what is refused before the slices are looked at, then 10.

module _ {s input : List ℕ} {A p : ℕ} {before after : List ℕ} {r : Result Line Refusal} (admission : Admission s input A p before after r) (table work : ℕ) where
  pub refused_first : {t : Result Line Refusal} {n : Refusal} → r ≡ Err n → t ≡ Err n → Admits s (question_of input (A at p) table work) before after t
  refused_first {t} {n} e f =
      admits s (question_of input (A at p) table work) before after t admission.stores
      (question_follows s input A p table work (refused (number_of n) (line_of n)) (not_admitted s (asked input (A at p)) admission e)) (ap told f)

  module _ {l : Line} (e : r ≡ Ok l) where
    read : Reads (handed s (asked input (A at p))) l
    read = admitted s (asked input (A at p)) admission e

    pub few_short : (l.variables ≤ 256) × (length input ≤ 4096)
    few_short = ready.few_short s (asked input (A at p)) admission e

    module _ {small : Bool} (tested : small ≡ (ltb table (2 * cells l.variables (length input)) || ltb work (cells l.variables (length input)))) where
      follows : handed s (question_of input (A at p) table work) ≡ cond small (refused 10 0) (accepted read.grammar)
      follows = question_follows s input A p table work (accepted read.grammar) read.accepts ∙ rw (read.variables_are, tested)

      pub refused_small : small ≡ true → Admits s (question_of input (A at p) table work) before after (Err Room)
      refused_small h = admits s (question_of input (A at p) table work) before after (Err Room) {o = refused 10 0} admission.stores (follows ∙ rw h) refl

      pub admitted_then : small ≡ false → Admits s (question_of input (A at p) table work) before after (Ok l)
      admitted_then h = admits s (question_of input (A at p) table work) before after (Ok l) {o = accepted read.grammar} admission.stores (follows ∙ rw h) (sym (line_says_law read))

-- ---- The question.

module _ (s input : List ℕ) (A p : ℕ) (table work : List ℕ) {before after : List ℕ} {r : Result Line Refusal}
    (admission : Admits s (question_of input (A at p) (length table) (length work)) before after r) where
  -- Refused,
  pub refused_question : {n : Refusal} {t : Checked Reply} → r ≡ Err n → t ≡ refused (number_of n) (line_of n)
      → Replies (handed s (question_of input (A at p) (length table) (length work))) input (A at p) table table work work t
  refused_question e f = rw (not_admitted s (question_of input (A at p) (length table) (length work)) admission e) (f, refl, refl)

  module _ {l : Line} (e : r ≡ Ok l) where
    -- or asked,
    pub ask_ready : AskReady (rule_in after) input l.variables A p table work
    ask_ready =
        let read = admitted s (question_of input (A at p) (length table) (length work)) admission e in
        ready.ask_ready s (question_of input (A at p) (length table) (length work)) admission e table work A p refl
        (handed_pair s (question_of input (A at p) (length table) (length work)) read.grammar read.accepts (A at p) refl)

    -- and answered.
    pub replies : {table' work' : List ℕ} {a : Reply} → Answers (rule_in after) l.variables input (A at p) table table' work work' a
        → Replies (handed s (question_of input (A at p) (length table) (length work))) input (A at p) table table' work work' (accepted a)
    replies {table'} {work'} {a} answers =
        rw (admitted s (question_of input (A at p) (length table) (length work)) admission e).accepts
        (a, refl, of_grammar s (question_of input (A at p) (length table) (length work)) admission e (λ f v B. Answers f v input (A at p) table table' work work' a) answers)
