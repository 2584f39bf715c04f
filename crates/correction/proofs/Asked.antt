-- The correction, from the admission of its question on. Assumes nothing.
use mathlib.Core.Bool.{Bool, true, false}
use mathlib.Core.List.{List}
use mathlib.Core.Path.{◌≡◌, refl, ◌∙◌, subst}
use Prim.Native.Nat.{ℕ, ◌+◌, ◌≤◌, ◌<◌}
use native.Mathlib.Omega.{arith}
use lib.ListN.{length}
use borrow.Author.Tests.{lt-ltb, le-ltb}
use Rattle.std.specs.Prelude.{Result, Ok, Err}
use Rattle.grammar.specs.Numbers.{number_of, line_of}
use Rattle.grammar.specs.Refusal.{Checked, refused, accepted}
use Rattle.grammar.specs.Sheet.{Grammar}
use Rattle.grammar.specs.Words.{rule_in}
use Rattle.grammar.specs.declared.refusal.Refusal.{Refusal}
use Rattle.grammar.specs.declared.sheet.Grammar.{Grammar as Line}
use Rattle.rules.specs.Admission.{Admits}
use Rattle.schema.specs.Derivation.{Pair, ◌at◌}
use Rattle.schema.specs.Handed.{question_of}
use Rattle.finish.specs.Reply.{Reply}
use Rattle.walk.specs.Over.{OverReady, Over}
use Rattle.memo.proofs.Ready as ready
use Rattle.kept.specs.Differs.{differs_elsewhere}
use Rattle.kept.specs.Kept.{retained}
use Rattle.kept.specs.Range.{cells_out}
use Rattle.kept.proofs.Differing.{then_differs}
use Rattle.passes.specs.Passes.{PassReady, Starts, StartsUnless}
use Rattle.correction.specs.Call.{KeptOf, Replies}
use Rattle.correction.specs.Refusals.{correction_condition, correction_order, correctable}
use Rattle.correction.proofs.Refusing.{correction_late, correction_tested}
use Rattle.correction.proofs.Starting.{before_right}
use Rattle.correction.proofs.Testing as testing
use Rattle.correction.proofs.Testing.{may_pass, range_is}

module _ (s old input : List ℕ) (A p c : ℕ) (table work : List ℕ) {before after : List ℕ} {r : Result Line Refusal}
    (admission : Admits s (question_of input (A at p) (length table) (length work)) before after r) where
  abbrev own : Grammar → ℕ → ℕ → Bool
  own = correction_condition old input c table

  abbrev Kept : Grammar → Type 0
  Kept = KeptOf old table

  abbrev start : Pair → ℕ × ℕ
  start = retained (c + 1) (length input) table

  -- The call with its table, its work slice and its answer.
  abbrev pub Corrects : List ℕ → List ℕ → Checked Reply → Type 0
  Corrects table' work' t = Replies (correctable s old input (A at p) c table (length work)) input (A at p) (KeptOf old table) (retained (c + 1) (length input) table) table table' work work' t

  -- Refused as the question is,
  pub refused_first : {n : Refusal} {t : Checked Reply} → r ≡ Err n → t ≡ refused (number_of n) (line_of n) → Corrects table work t
  refused_first = testing.refused_first s input A p table work admission own correction_order correction_late Kept start

  module _ {l : Line} (e : r ≡ Ok l) where
    abbrev g : Grammar
    g = (ready.admitted s (question_of input (A at p) (length table) (length work)) admission e).grammar

    -- for a position that no byte has,
    pub refused_position : length input ≤ c → Corrects table work (refused 18 0)
    refused_position h =
        testing.refused_own s input A p table work admission own correction_order correction_late Kept start e
        (correction_tested old input c table g ∙ rw (le-ltb c (length input) h)) refl refl

    module _ (below : c < length input) where
      -- for an old input that differs elsewhere,
      pub refused_elsewhere : differs_elsewhere c old input ≡ true → Corrects table work (refused 21 0)
      refused_elsewhere h =
          testing.refused_own s input A p table work admission own correction_order correction_late Kept start e
          (correction_tested old input c table g ∙ rw (lt-ltb c (length input) below, h)) refl refl

      -- What the passes are handed.
      pub passes : PassReady l.variables (length input) (c + 1) table
      passes = may_pass s input A p table work admission e (c + 1) (omega arith)

      module _ (same : differs_elsewhere c old input ≡ false) (table₁ : List ℕ)
          (retains : StartsUnless (cells_out l.variables (length input) (retained (c + 1) (length input) table)) l.variables (length input)
          (retained (c + 1) (length input) table) table table₁) where
        -- for a retained cell out of range.
        pub refused_range : {t : Checked Reply} → cells_out l.variables (length input) (retained (c + 1) (length input) table) ≡ true → t ≡ refused 19 0
            → Corrects table₁ work t
        refused_range is t =
            testing.refused_own s input A p table work admission own correction_order correction_late Kept start e
            (correction_tested old input c table g ∙ rw (lt-ltb c (length input) below, same, range_is s input A p table work admission e start is)) t
            (subst (λ (b : Bool). StartsUnless b l.variables (length input) start table table₁) is retains)

        module _ (is : cells_out l.variables (length input) (retained (c + 1) (length input) table) ≡ false) where
          blanks : Starts l.variables (length input) start table table₁
          blanks = subst (λ (b : Bool). StartsUnless b l.variables (length input) start table table₁) is retains

          -- What is then asked is handed,
          pub asks : OverReady (rule_in after) input l.variables A p table₁ work
          asks = testing.asks s input A p table work admission own correction_order correction_late Kept start e is blanks

          -- and the answer is the correction's.
          pub replies : {table' work' : List ℕ} {a : Reply} → Over (rule_in after) l.variables input (A at p) table₁ table' work work' a
              → Corrects table' work' (accepted a)
          replies =
              testing.replied s input A p table work admission own correction_order correction_late Kept start e is blanks
              (λ g e. before_right s input table g e old c (then_differs c old input same))
              (correction_tested old input c table g ∙ rw (lt-ltb c (length input) below, same, range_is s input A p table work admission e start is))
