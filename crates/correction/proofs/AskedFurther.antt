-- The further question, from the admission of its question on. Assumes nothing.
use mathlib.Core.Bool.{Bool, true, false}
use mathlib.Core.List.{List}
use mathlib.Core.Path.{◌≡◌, refl, ◌∙◌}
use Prim.Native.Nat.{ℕ}
use native.Mathlib.Omega.{arith}
use lib.ListN.{length}
use Rattle.std.specs.Prelude.{Result, Ok, Err}
use Rattle.grammar.specs.Numbers.{number_of, line_of}
use Rattle.grammar.specs.Refusal.{Checked, refused, accepted}
use Rattle.grammar.specs.Sheet.{Grammar}
use Rattle.grammar.specs.Words.{rule_in}
use Rattle.grammar.specs.declared.refusal.Refusal.{Refusal}
use Rattle.grammar.specs.declared.sheet.Grammar.{Grammar as Line}
use Rattle.rules.specs.Admission.{Admits}
use Rattle.schema.specs.Derivation.{Pair, ◌at◌}
use Rattle.schema.specs.Handed.{question_of}
use Rattle.schema.specs.Table.{contents}
use Rattle.finish.specs.Reply.{Reply}
use Rattle.walk.specs.Over.{OverReady, Over}
use Rattle.memo.proofs.Ready as ready
use Rattle.kept.specs.Range.{cells_out}
use Rattle.passes.specs.Passes.{PassReady, Starts}
use Rattle.correction.specs.Call.{KeptOf, Replies}
use Rattle.correction.specs.Refusals.{further_condition, further_order, askable}
use Rattle.correction.proofs.Refusing.{further_late, further_tested}
use Rattle.correction.proofs.Starting.{of_right}
use Rattle.correction.proofs.Testing as testing
use Rattle.correction.proofs.Testing.{may_pass, range_is}

module _ (s input : List ℕ) (A p : ℕ) (table work : List ℕ) {before after : List ℕ} {r : Result Line Refusal}
    (admission : Admits s (question_of input (A at p) (length table) (length work)) before after r) where
  abbrev own : Grammar → ℕ → ℕ → Bool
  own = further_condition input table

  abbrev Kept : Grammar → Type 0
  Kept = KeptOf input table

  abbrev start : Pair → ℕ × ℕ
  start = contents (length input) table

  -- The call with its table, its work slice and its answer.
  abbrev pub Asks : List ℕ → List ℕ → Checked Reply → Type 0
  Asks table' work' t = Replies (askable s input (A at p) table (length work)) input (A at p) (KeptOf input table) (contents (length input) table) table table' work work' t

  -- Refused as the question is,
  pub refused_first : {n : Refusal} {t : Checked Reply} → r ≡ Err n → t ≡ refused (number_of n) (line_of n) → Asks table work t
  refused_first = testing.refused_first s input A p table work admission own further_order further_late Kept start

  module _ {l : Line} (e : r ≡ Ok l) where
    abbrev g : Grammar
    g = (ready.admitted s (question_of input (A at p) (length table) (length work)) admission e).grammar

    -- What the pass is handed: it tests the cells at every position.
    pub passes : PassReady l.variables (length input) 0 table
    passes = may_pass s input A p table work admission e 0 (omega arith)

    -- for a cell out of range.
    pub refused_range : cells_out l.variables (length input) (contents (length input) table) ≡ true → Asks table work (refused 19 0)
    refused_range is =
        testing.refused_own s input A p table work admission own further_order further_late Kept start e
        (further_tested input table g ∙ rw (range_is s input A p table work admission e start is)) refl refl

    module _ (is : cells_out l.variables (length input) (contents (length input) table) ≡ false) where
      -- "A further question blanks nothing."
      as_it_is : Starts l.variables (length input) (contents (length input) table) table table
      as_it_is = record { holds = λ B q w. refl; later = refl; size = refl }

      -- What is then asked is handed,
      pub asks : OverReady (rule_in after) input l.variables A p table work
      asks = testing.asks s input A p table work admission own further_order further_late Kept start e is as_it_is

      -- and the answer is the further question's.
      pub replies : {table' work' : List ℕ} {a : Reply} → Over (rule_in after) l.variables input (A at p) table table' work work' a → Asks table' work' (accepted a)
      replies =
          testing.replied s input A p table work admission own further_order further_late Kept start e is as_it_is (of_right s input table)
          (further_tested input table g ∙ rw (range_is s input A p table work admission e start is))
