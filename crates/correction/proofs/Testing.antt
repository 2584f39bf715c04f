-- A call over a table that may hold anything, from the admission of its question on. Assumes nothing.
use mathlib.Core.Bool.{Bool, false}
use mathlib.Core.List.{List}
use mathlib.Core.Path.{◌≡◌, refl, ap, ◌∙◌}
use Prim.Native.Nat.{ℕ, ◌≤◌}
use lib.ListN.{length}
use Rattle.std.specs.Prelude.{Result, Ok, Err}
use Rattle.grammar.specs.Numbers.{number_of, line_of}
use Rattle.grammar.specs.Refusal.{Checked, refused, accepted, checked}
use Rattle.grammar.specs.Sheet.{Grammar, sheet}
use Rattle.grammar.specs.Words.{rule_in}
use Rattle.grammar.specs.declared.refusal.Refusal.{Refusal}
use Rattle.grammar.specs.declared.sheet.Grammar.{Grammar as Line}
use Rattle.grammar.proofs.Refusals.{Each}
use Rattle.grammar.proofs.Told.{Reads}
use Rattle.rules.specs.Admission.{Admits}
use Rattle.schema.specs.Derivation.{Pair, ◌at◌}
use Rattle.schema.specs.Handed.{Handed, handed, question_of}
use Rattle.schema.proofs.Handed.{handed_sheet}
use Rattle.finish.specs.Reply.{Reply}
use Rattle.walk.specs.Over.{OverReady, Over}
use Rattle.memo.proofs.Questioned.{ask_ready}
use Rattle.memo.proofs.Ready as ready
use Rattle.kept.specs.Range.{cells_out}
use Rattle.kept.proofs.RightCells.{RightCells}
use Rattle.passes.specs.Passes.{PassReady, Starts}
use Rattle.correction.specs.Call.{KeptCall, Replies}
use Rattle.correction.specs.Refusals.{callable}
use Rattle.correction.proofs.Calling.{CallReady, may_ask, calls_over}
use Rattle.correction.proofs.Refusing.{refused_before, then_tested}

module _ (s input : List ℕ) (A p : ℕ) (table work : List ℕ) {before after : List ℕ} {r : Result Line Refusal}
    (admission : Admits s (question_of input (A at p) (length table) (length work)) before after r) where
  abbrev question : Handed
  question = question_of input (A at p) (length table) (length work)

  -- ---- Its own refusals; when its table was kept; what the cells hold at its start.

  module _ (own : Grammar → ℕ → ℕ → Bool) (order : List (ℕ × ℕ)) (late : Each (λ y. 18 ≤ y) order) (Kept : Grammar → Type 0) (start : Pair → ℕ × ℕ) where
    abbrev found : Checked Grammar
    found = callable s input (A at p) (length table) (length work) own order

    -- The call with its table, its work slice and its answer.
    abbrev Called : List ℕ → List ℕ → Checked Reply → Type 0
    Called table' work' t = Replies (callable s input (A at p) (length table) (length work) own order) input (A at p) Kept start table table' work work' t

    -- Refused as the question is,
    pub refused_first : {n : Refusal} {t : Checked Reply} → r ≡ Err n → t ≡ refused (number_of n) (line_of n)
        → Replies (callable s input (A at p) (length table) (length work) own order) input (A at p) Kept start table table work work t
    refused_first {n} e t =
        rw (refused_before s input (A at p) (length table) (length work) own order late (number_of n) (line_of n) (ready.not_admitted s question admission e)) (t, refl, refl)

    module _ {l : Line} (e : r ≡ Ok l) where
      abbrev read : Reads (handed s (question_of input (A at p) (length table) (length work))) l
      read = ready.admitted s (question_of input (A at p) (length table) (length work)) admission e

      -- The question is accepted, and the call's own refusals come.
      own_tested : found ≡ checked (own read.grammar) order read.grammar
      own_tested = then_tested s input (A at p) (length table) (length work) own order late read.grammar read.accepts

      -- One of them holds first,
      pub refused_own : {table' : List ℕ} {x l' : ℕ} {t : Checked Reply}
          → checked (own (ready.admitted s (question_of input (A at p) (length table) (length work)) admission e).grammar) order
          (ready.admitted s (question_of input (A at p) (length table) (length work)) admission e).grammar ≡ refused x l'
          → t ≡ refused x l' → table' ≡ table
          → Replies (callable s input (A at p) (length table) (length work) own order) input (A at p) Kept start table table' work work t
      refused_own h t k = rw (own_tested, h) (t, k, refl)

      -- or none, and a table that holds the start is asked over.
      module _ {table₁ : List ℕ} (in_range : cells_out l.variables (length input) start ≡ false) (starts : Starts l.variables (length input) start table table₁) where
        call_ready : CallReady (rule_in after) input l.variables A p start table work
        call_ready = record { ask = ask_ready s input A p table work admission e; in_range = in_range }

        -- What is then asked is handed,
        pub asks : OverReady (rule_in after) input l.variables A p table₁ work
        asks = may_ask call_ready starts

        -- and the answer is the call's, where a kept table makes the start right.
        pub replied : {table' work' : List ℕ} {a : Reply}
            → ((g : Grammar) → sheet s ≡ accepted g → Kept g → RightCells g.rule g.variables input start)
            → checked (own (ready.admitted s (question_of input (A at p) (length table) (length work)) admission e).grammar) order
            (ready.admitted s (question_of input (A at p) (length table) (length work)) admission e).grammar
            ≡ accepted (ready.admitted s (question_of input (A at p) (length table) (length work)) admission e).grammar
            → Over (rule_in after) l.variables input (A at p) table₁ table' work work' a
            → Replies (callable s input (A at p) (length table) (length work) own order) input (A at p) Kept start table table' work work' (accepted a)
        replied {table'} {work'} {a} right h over =
            rw (own_tested, h)
            (ready.of_grammar s question admission e
            (λ f v B. (Kept read.grammar → RightCells f v input start) → KeptCall f v input (A at p) (Kept read.grammar) start table table' work work' (accepted a))
            (λ k. calls_over call_ready starts k a over)
            (right read.grammar (handed_sheet s question read.grammar read.accepts)))

  -- ---- What both calls make of the test for 19.

  module _ {l : Line} (e : r ≡ Ok l) where
    -- What a pass is handed.
    pub may_pass : (first : ℕ) → first ≤ length input → PassReady l.variables (length input) first table
    may_pass first m =
        let a = ask_ready s input A p table work admission e in
        record { few = a.few; short = a.short; inside = m; room = a.room }

    -- 19 of the grammar's variables.
    pub range_is : (start : Pair → ℕ × ℕ) {out : Bool} → cells_out l.variables (length input) start ≡ out
        → cells_out (ready.admitted s (question_of input (A at p) (length table) (length work)) admission e).grammar.variables (length input) start ≡ out
    range_is start out-is = ap (λ (v : ℕ). cells_out v (length input) start) (ready.admitted s question admission e).variables_are ∙ out-is
