-- The theorems of a further question, about any result that meets the call's contract. Assumes nothing.
use mathlib.Core.Bool.{false}
use mathlib.Core.List.{List}
use mathlib.Core.Logic.{◌≢◌, ◌↔◌}
use mathlib.Core.Path.{◌≡◌, refl, ◌∙◌}
use Prim.Native.Nat.{ℕ}
use native.Mathlib.Omega.{arith}
use lib.ListN.{length}
use Rattle.std.specs.Prelude.{Result}
use Rattle.grammar.specs.Refusal.{refused, accepted}
use Rattle.grammar.specs.Sheet.{Grammar, sheet}
use Rattle.schema.specs.Derivation.{◌at◌}
use Rattle.schema.specs.Handed.{handed, question_of}
use Rattle.schema.specs.Table.{Within, held, contents}
use Rattle.schema.proofs.Handed.{handed_sheet, handed_pair}
use Rattle.finish.specs.Reply.{told}
use Rattle.grammar.specs.declared.refusal.Refusal.{Refusal}
use Rattle.finish.specs.declared.Answer.{Answer}
use Rattle.memo.specs.Answer.{QuestionPromise}
use Rattle.kept.specs.Kept.{KeptTable, further}
use Rattle.kept.specs.Range.{cells_out}
use Rattle.kept.proofs.Ranged.{four_out, none_right}
use Rattle.correction.specs.Call.{KeptAnswers, KeptCall, KeptOf, Alike}
use Rattle.correction.specs.Further.{FurtherPromise}
use Rattle.correction.specs.Refusals.{further_condition, further_order, askable, FurtherRefuses}
use Rattle.correction.proofs.Answered as answered
use Rattle.correction.proofs.Refusing as refusing
use Rattle.correction.proofs.Refusing.{further_late, further_tested}
use Rattle.correction.proofs.Starting.{of_right}

module _ (s input : List ℕ) (A p : ℕ) (table work : List ℕ) where
  -- ---- A kept table is never refused with 19.

  module _ (g : Grammar) (reads : sheet s ≡ accepted g) (kept : KeptTable g.rule g.variables input table) where
    kept_in : cells_out g.variables (length input) (contents (length input) table) ≡ false
    kept_in = none_right g.rule g.variables input (of_right s input table g reads kept)

    pub never_19 : (l : ℕ) → askable s input (A at p) table (length work) ≢ refused 19 l
    unfolding further_condition
    never_19 l = refusing.never_refused s input (A at p) (length table) (length work) (further_condition input table) further_order g reads 19 l (omega arith) kept_in

    -- Where the question is accepted, so is the further question.
    pub kept_accepted : handed s (question_of input (A at p) (length table) (length work)) ≡ accepted g → askable s input (A at p) table (length work) ≡ accepted g
    kept_accepted e =
        refusing.then_tested s input (A at p) (length table) (length work) (further_condition input table) further_order further_late g e
        ∙ further_tested input table g ∙ rw kept_in

  -- ---- Order 11: "a retained 4 comes under 19".

  pub held_four : (g : Grammar) → handed s (question_of input (A at p) (length table) (length work)) ≡ accepted g
      → (B q : ℕ) → Within g.variables (length input) B q → held (length input) table (B at q) ≡ 4 → askable s input (A at p) table (length work) ≡ refused 19 0
  held_four g e B q w four =
      refusing.then_tested s input (A at p) (length table) (length work) (further_condition input table) further_order further_late g e
      ∙ further_tested input table g ∙ rw (four_out g.variables (length input) (contents (length input) table) B q w four)

  -- ---- Any result.

  module _ (table' work' : List ℕ) (r : Result Answer Refusal) (promise : FurtherPromise s input A p table table' work work' r) where
    -- Demand 1: refused with a number exactly under its condition,
    pub refused_exactly : (x l : ℕ) → (told r ≡ refused x l) ↔ FurtherRefuses s input (A at p) table (length work) x l
    refused_exactly =
        answered.refused_exactly (further_condition input table) further_order (KeptOf input table) (contents (length input) table)
        s input (A at p) table table' work work' (told r) promise

    -- and then both slices are as they were.
    pub then_unchanged : (x l : ℕ) → told r ≡ refused x l → (table' ≡ table) × (work' ≡ work)
    then_unchanged =
        answered.then_unchanged (further_condition input table) further_order (KeptOf input table) (contents (length input) table)
        s input (A at p) table table' work work' (told r) promise

    -- A further question that is accepted has a reply, from any table.
    pub asked_further : (g : Grammar) → askable s input (A at p) table (length work) ≡ accepted g
        → KeptCall g.rule g.variables input (A at p) (KeptOf input table g) (contents (length input) table) table table' work work' (told r)
    asked_further =
        answered.called (further_condition input table) further_order (KeptOf input table) (contents (length input) table)
        s input (A at p) table table' work work' (told r) promise

    -- ---- From a kept table, where the question is accepted.

    module _ (g : Grammar) (accepts : handed s (question_of input (A at p) (length table) (length work)) ≡ accepted g)
        (kept : KeptTable g.rule g.variables input table) where
      pub reads : sheet s ≡ accepted g
      reads = handed_sheet s (question_of input (A at p) (length table) (length work)) g accepts

      pub within : Within g.variables (length input) A p
      within = handed_pair s (question_of input (A at p) (length table) (length work)) g accepts (A at p) refl

      -- It has a reply,
      pub kept_call : KeptCall g.rule g.variables input (A at p) (KeptOf input table g) (contents (length input) table) table table' work work' (told r)
      kept_call = asked_further g (kept_accepted g reads kept accepts)

      pub answers : KeptAnswers g.rule g.variables input (A at p) (contents (length input) table) table table' kept_call.replies
      answers = kept_call.from_kept kept

      -- which is the one a fresh table gives, of any question about the same, over any slices,
      pub as_fresh : (table₀ table₀' work₀ work₀' : List ℕ) (r₀ : Result Answer Refusal) → QuestionPromise s input A p table₀ table₀' work₀ work₀' r₀
          → handed s (question_of input (A at p) (length table₀) (length work₀)) ≡ accepted g → Alike r r₀
      as_fresh table₀ table₀' work₀ work₀' r₀ promise₀ accepts₀ = answered.as_fresh s input A p table₀ table₀' work₀ work₀' r₀ promise₀ g accepts₀ answers kept_call.accepts

      -- and the table is kept again.
      pub kept_again : KeptTable g.rule g.variables input table'
      kept_again = further within kept answers.leaves
