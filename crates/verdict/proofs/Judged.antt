-- The verdict: its tests, from the reading of its sheet on, and the answer to what they admit. Assumes nothing.
use mathlib.Core.Path.{◌≡◌, refl, sym, ap, ◌∙◌, subst}
use mathlib.Core.Bool.{Bool, cond, ◌||◌}
use mathlib.Core.List.{List}
use Prim.Native.Nat.{ℕ, ◌*◌, ◌≤◌}
use lib.Dec.{ltb}
use lib.ListN.{length}
use Rattle.std.specs.Prelude.{Result, Ok, Err}
use Rattle.grammar.specs.Numbers.{number_of, line_of}
use Rattle.grammar.specs.Refusal.{refused, accepted}
use Rattle.grammar.specs.Sheet.{Grammar, sheet}
use Rattle.grammar.specs.Promise.{told, SheetPromise}
use Rattle.grammar.specs.Words.{rule_in}
use Rattle.grammar.specs.declared.refusal.Refusal.{Refusal}
use Rattle.grammar.specs.declared.sheet.Grammar.{Grammar as Line}
use Rattle.grammar.proofs.Accepted.{grammar_in_range}
use Rattle.grammar.proofs.Told.{Reads, told_refused, told_read, line_says_law}
use Rattle.schema.specs.Derivation.{◌at◌}
use Rattle.schema.specs.Handed.{handed, verdict_of}
use Rattle.schema.specs.Table.{Within, cells}
use Rattle.schema.proofs.Handed.{handed_sheet}
use Rattle.schema.proofs.SheetClosed.{start_within}
use Rattle.schema.proofs.Tested.{handed_refused, verdict_by}
use Rattle.rules.specs.Admission.{Admits}
use Rattle.rules.proofs.Admitted.{admits}
use Rattle.finish.specs.Reply.{Reply}
use Rattle.memo.specs.Answer.{Answers}
use Rattle.memo.specs.Ask.{AskReady}
use Rattle.memo.proofs.Ready as ready
use Rattle.memo.proofs.Ready.{not_admitted, admitted, of_grammar}
use Rattle.verdict.specs.Verdict.{judged, Judges}

-- ---- The tests.

module _ {s before after : List ℕ} {r : Result Line Refusal} (promise : SheetPromise s before after r) (input : List ℕ) (table work : ℕ) where
  -- Refused with the sheet.
  pub refused_sheet : {t : Result Line Refusal} {n : Refusal} → r ≡ Err n → t ≡ Err n → Admits s (verdict_of input table work) before after t
  refused_sheet {t} {n} e f =
      admits s (verdict_of input table work) before after t promise.stores
      (handed_refused s (verdict_of input table work) (number_of n) (line_of n) (told_refused (sheet s) r n promise.says e)) (ap told f)

  module _ {l : Line} (e : r ≡ Ok l) where
    read : Reads (sheet s) l
    read = told_read (sheet s) r l promise.says e

    -- V is at most 256.
    pub few : l.variables ≤ 256
    few = subst (λ (n : ℕ). n ≤ 256) read.variables_are (grammar_in_range s read.grammar read.accepts).1

    -- Whether the input is too long, and whether the slices are too small.
    module _ {a c : Bool} (long : ltb 4096 (length input) ≡ a)
        (small : c ≡ (ltb table (2 * cells l.variables (length input)) || ltb work (cells l.variables (length input)))) where
      follows : handed s (verdict_of input table work) ≡ cond a (refused 6 0) (cond c (refused 10 0) (accepted read.grammar))
      follows = verdict_by s input read.grammar table work a c read.accepts long (rw read.variables_are (sym small))

      -- Refused with 6 or 10,
      pub refused_then : {n : Refusal} → ((g : Grammar) → cond a (refused 6 0) (cond c (refused 10 0) (accepted g)) ≡ refused (number_of n) (line_of n))
          → Admits s (verdict_of input table work) before after (Err n)
      refused_then {n} h = admits s (verdict_of input table work) before after (Err n) promise.stores (follows ∙ h read.grammar) refl

      -- or admitted.
      pub admitted_then : ((g : Grammar) → cond a (refused 6 0) (cond c (refused 10 0) (accepted g)) ≡ accepted g)
          → Admits s (verdict_of input table work) before after (Ok l)
      admitted_then h = admits s (verdict_of input table work) before after (Ok l) promise.stores (follows ∙ h read.grammar) (sym (line_says_law read))

-- ---- The verdict, from its admission on.

module _ (s input table work : List ℕ) {before after : List ℕ} {r : Result Line Refusal}
    (admission : Admits s (verdict_of input (length table) (length work)) before after r) where
  -- Refused,
  pub refused_verdict : {n : Refusal} {numbers : List ℕ} → r ≡ Err n → numbers ≡ judged (length input) (refused (number_of n) (line_of n))
      → Judges (handed s (verdict_of input (length table) (length work))) input table table work work numbers
  refused_verdict e f = rw (not_admitted s (verdict_of input (length table) (length work)) admission e) (f, refl, refl)

  module _ {l : Line} (e : r ≡ Ok l) where
    -- or asked about its start variable at 0,
    pub ask_ready : AskReady (rule_in after) input l.variables l.start 0 table work
    ask_ready =
        let h = verdict_of input (length table) (length work) in
        let read = admitted s h admission e in
        let g = read.grammar in
        ready.ask_ready s h admission e table work l.start 0 refl
        (subst (λ (A : ℕ). Within g.variables (length input) A 0) read.start_is (start_within s g (handed_sheet s h g read.accepts)))

    -- and answered.
    pub judges : {table' work' numbers : List ℕ} {a : Reply} → Answers (rule_in after) l.variables input (l.start at 0) table table' work work' a
        → numbers ≡ judged (length input) (accepted a)
        → Judges (handed s (verdict_of input (length table) (length work))) input table table' work work' numbers
    judges {table'} {work'} {a = a} answers n =
        rw (admitted s (verdict_of input (length table) (length work)) admission e).accepts (
          accepted a,
          n,
          (a, refl, of_grammar s (verdict_of input (length table) (length work)) admission e (λ f v A. Answers f v input (A at 0) table table' work work' a) answers),
        )
