-- The theorems of a correction, about any result that meets the call's contract. Assumes nothing.
use mathlib.Core.Bool.{Bool, true, false, cond}
use mathlib.Core.List.{List}
use mathlib.Core.Logic.{◌≢◌, ◌↔◌}
use mathlib.Core.Path.{◌≡◌, refl, sym, ◌∙◌}
use Prim.Native.Nat.{ℕ, ◌+◌, ◌<◌}
use native.Mathlib.Omega.{arith}
use lib.ListN.{length}
use borrow.Author.Tests.{lt-ltb}
use Rattle.std.specs.Prelude.{Result}
use Rattle.grammar.specs.Refusal.{Checked, refused, accepted, checked}
use Rattle.grammar.specs.Rule.{Rule}
use Rattle.grammar.specs.Sheet.{Grammar, sheet}
use Rattle.schema.specs.Derivation.{◌at◌}
use Rattle.schema.specs.Handed.{Handed, handed, question_of}
use Rattle.schema.specs.Table.{Within}
use Rattle.schema.proofs.Handed.{handed_sheet, handed_input, handed_pair}
use Rattle.schema.proofs.Small.{refusal_small}
use Rattle.finish.specs.Reply.{Reply, told}
use Rattle.grammar.specs.declared.refusal.Refusal.{Refusal}
use Rattle.finish.specs.declared.Answer.{Answer}
use Rattle.memo.specs.Answer.{Answers, QuestionPromise}
use Rattle.memo.proofs.Promised.{question_answers}
use Rattle.kept.specs.Differs.{DiffersAt, differs_elsewhere}
use Rattle.kept.specs.Kept.{retained, KeptTable, asked, corrected}
use Rattle.kept.specs.Range.{cells_out}
use Rattle.kept.proofs.Differing.{other_length, then_differs}
use Rattle.kept.proofs.Ranged.{four_out, none_right}
use Rattle.correction.specs.Call.{KeptAnswers, KeptCall, KeptOf, Alike}
use Rattle.correction.specs.Correction.{CorrectionPromise}
use Rattle.correction.specs.Refusals.{corrected_out, correction_condition, correction_order, correctable, CorrectionRefuses}
use Rattle.correction.proofs.Answered as answered
use Rattle.correction.proofs.Refusing as refusing
use Rattle.correction.proofs.Refusing.{correction_late, correction_tested, correction_below, correction_differs}
use Rattle.correction.proofs.Starting.{before_right}

-- ---- Which tables are kept: "left by a question", which a verdict and the writer ask too;

pub answers_kept : {rule : ℕ → Rule} {v : ℕ} {input : List ℕ} {A p : ℕ} {table table' work work' : List ℕ} {a : Reply} → Within v (length input) A p
    → Answers rule v input (A at p) table table' work work' a → KeptTable rule v input table'
answers_kept w a = asked w a.leaves

pub question_kept : (s input : List ℕ) (A p : ℕ) (table table' work work' : List ℕ) (r : Result Answer Refusal) → QuestionPromise s input A p table table' work work' r
    → (g : Grammar) → handed s (question_of input (A at p) (length table) (length work)) ≡ accepted g → KeptTable g.rule g.variables input table'
question_kept s input A p table table' work work' r promise g accepts =
    answers_kept (handed_pair s (question_of input (A at p) (length table) (length work)) g accepts (A at p) refl)
    (question_answers s input A p table work g accepts table' work' r promise).2

-- and what a correction (`kept_again`) and a further question (PromisedFurther) leave of one.

module _ (s old input : List ℕ) (A p c : ℕ) (table work : List ℕ) where
  abbrev question : Handed
  question = question_of input (A at p) (length table) (length work)

  abbrev own : Grammar → ℕ → ℕ → Bool
  own = correction_condition old input c table

  -- ---- A kept table of the old input is never refused with 19.

  module _ (g : Grammar) (reads : sheet s ≡ accepted g) (kept : KeptTable g.rule g.variables old table) where
    kept_in : differs_elsewhere c old input ≡ false → cells_out g.variables (length input) (retained (c + 1) (length input) table) ≡ false
    kept_in same = none_right g.rule g.variables input (before_right s input table g reads old c (then_differs c old input same) kept)

    -- Where the question is accepted, c is the position of a byte and the old input differs there at most, so is the correction.
    pub kept_accepted : handed s (question_of input (A at p) (length table) (length work)) ≡ accepted g → c < length input → differs_elsewhere c old input ≡ false
        → correctable s old input (A at p) c table (length work) ≡ accepted g
    kept_accepted e l same =
        refusing.then_tested s input (A at p) (length table) (length work) own correction_order correction_late g e
        ∙ correction_tested old input c table g ∙ rw (lt-ltb c (length input) l, same, kept_in same)

    -- Where it differs elsewhere, 21 comes first.
    elsewhere : (l : ℕ) → differs_elsewhere c old input ≡ true → correctable s old input (A at p) c table (length work) ≢ refused 19 l
    elsewhere l differs f = by_question (handed s question) refl
      where
        by_position_law : (b : Bool) → ◌≡◌ {A = Checked Grammar} (cond b (refused 18 0) (refused 21 0)) (refused 19 l) → ⊥
        by_position_law true e = let z : ◌≡◌ {A = ℕ} 18 19 = cc in omega arith
        by_position_law false e = let z : ◌≡◌ {A = ℕ} 21 19 = cc in omega arith

        by_question : (o : Checked Grammar) → handed s question ≡ o → ⊥
        by_question (refused y m) e =
            let k = refusing.refused_before s input (A at p) (length table) (length work) own correction_order correction_late y m e in
            let z : y ≡ 19 = cc in
            let small = refusal_small s question y m e in
            omega arith
        by_question (accepted k) e =
            let t = refusing.then_tested s input (A at p) (length table) (length work) own correction_order correction_late k e in
            by_position_law (corrected_out (length input) c) (rw differs at (sym (t ∙ correction_tested old input c table k) ∙ f))

    -- Else what is retained is in range.
    in_range : (l : ℕ) → cells_out g.variables (length input) (retained (c + 1) (length input) table) ≡ false
        → correctable s old input (A at p) c table (length work) ≢ refused 19 l
    unfolding correction_condition
    in_range l = refusing.never_refused s input (A at p) (length table) (length work) own correction_order g reads 19 l (omega arith)

    pub never_19 : (l : ℕ) → correctable s old input (A at p) c table (length work) ≢ refused 19 l
    never_19 l = by_test (differs_elsewhere c old input) refl
      where
        by_test : (b : Bool) → differs_elsewhere c old input ≡ b → correctable s old input (A at p) c table (length work) ≢ refused 19 l
        by_test true differs = elsewhere l differs
        by_test false same = in_range l (kept_in same)

  -- ---- "6 tests only the new one": an old input over 4,096 bytes is refused with 21.

  pub long_old : (g : Grammar) → handed s (question_of input (A at p) (length table) (length work)) ≡ accepted g → c < length input → 4096 < length old
      → correctable s old input (A at p) c table (length work) ≡ refused 21 0
  long_old g e l long =
      let short = handed_input s question g e in
      refusing.then_tested s input (A at p) (length table) (length work) own correction_order correction_late g e
      ∙ correction_tested old input c table g ∙ rw (lt-ltb c (length input) l, other_length c old input (λ z. omega arith))

  -- ---- Order 11: "a retained 4 comes under 19".

  pub retained_four : (g : Grammar) → handed s (question_of input (A at p) (length table) (length work)) ≡ accepted g → c < length input → differs_elsewhere c old input ≡ false
      → (B q : ℕ) → Within g.variables (length input) B q → (retained (c + 1) (length input) table (B at q)).0 ≡ 4
      → correctable s old input (A at p) c table (length work) ≡ refused 19 0
  retained_four g e l same B q w four =
      refusing.then_tested s input (A at p) (length table) (length work) own correction_order correction_late g e
      ∙ correction_tested old input c table g
      ∙ rw (lt-ltb c (length input) l, same, four_out g.variables (length input) (retained (c + 1) (length input) table) B q w four)

  -- ---- Any result.

  module _ (table' work' : List ℕ) (r : Result Answer Refusal) (promise : CorrectionPromise s old input A p c table table' work work' r) where
    -- Demand 1: refused with a number exactly under its condition,
    pub refused_exactly : (x l : ℕ) → (told r ≡ refused x l) ↔ CorrectionRefuses s old input (A at p) c table (length work) x l
    refused_exactly =
        answered.refused_exactly own correction_order (KeptOf old table) (retained (c + 1) (length input) table)
        s input (A at p) table table' work work' (told r) promise

    -- and then both slices are as they were.
    pub then_unchanged : (x l : ℕ) → told r ≡ refused x l → (table' ≡ table) × (work' ≡ work)
    then_unchanged =
        answered.then_unchanged own correction_order (KeptOf old table) (retained (c + 1) (length input) table)
        s input (A at p) table table' work work' (told r) promise

  -- ---- A correction that is accepted.

  module _ (g : Grammar) (accepts : correctable s old input (A at p) c table (length work) ≡ accepted g) where
    -- The question is accepted too,
    pub question_accepted : handed s (question_of input (A at p) (length table) (length work)) ≡ accepted g
    question_accepted = refusing.question_accepted s input (A at p) (length table) (length work) own correction_order correction_late g accepts

    pub reads : sheet s ≡ accepted g
    reads = handed_sheet s question g question_accepted

    pub within : Within g.variables (length input) A p
    within = handed_pair s question g question_accepted (A at p) refl

    none_own : checked (correction_condition old input c table g) correction_order g ≡ accepted g
    none_own = sym (refusing.then_tested s input (A at p) (length table) (length work) own correction_order correction_late g question_accepted) ∙ accepts

    -- c is the position of a byte,
    pub below : c < length input
    below = correction_below old input c table g none_own

    -- and the old input differs there at most.
    pub differs : DiffersAt c old input
    differs = correction_differs old input c table g none_own

    module _ (table' work' : List ℕ) (r : Result Answer Refusal) (promise : CorrectionPromise s old input A p c table table' work work' r) where
      -- It has a reply, from any table.
      pub correction : KeptCall g.rule g.variables input (A at p) (KeptOf old table g) (retained (c + 1) (length input) table) table table' work work' (told r)
      correction =
          answered.called own correction_order (KeptOf old table) (retained (c + 1) (length input) table)
          s input (A at p) table table' work work' (told r) promise g accepts

      -- From a kept table of the old input it answers,
      module _ (kept : KeptTable g.rule g.variables old table) where
        pub corrects : KeptAnswers g.rule g.variables input (A at p) (retained (c + 1) (length input) table) table table' correction.replies
        corrects = correction.from_kept kept

        -- "the answer is the one a fresh table gives", of any question about the same, over any slices,
        pub as_fresh : (table₀ table₀' work₀ work₀' : List ℕ) (r₀ : Result Answer Refusal) → QuestionPromise s input A p table₀ table₀' work₀ work₀' r₀
            → handed s (question_of input (A at p) (length table₀) (length work₀)) ≡ accepted g → Alike r r₀
        as_fresh table₀ table₀' work₀ work₀' r₀ promise₀ accepts₀ = answered.as_fresh s input A p table₀ table₀' work₀ work₀' r₀ promise₀ g accepts₀ corrects correction.accepts

        -- and the table is kept again, now of the corrected one.
        pub kept_again : KeptTable g.rule g.variables input table'
        kept_again = corrected within below kept differs corrects.leaves
