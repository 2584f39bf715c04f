-- A call over a table that may hold anything is refused with a number exactly under that number's condition, where no condition that comes earlier in the
-- order holds: of its own refusals behind a question's. Assumes nothing.
use mathlib.Core.Bool.{Bool, false, cond, true≢false}
use mathlib.Core.List.{List}
use mathlib.Core.Logic.{◌≢◌, ◌↔◌}
use mathlib.Core.Path.{◌≡◌, refl, sym, ap, ap₂, ◌∙◌}
use Prim.Native.Nat.{ℕ, ◌+◌, ◌≤◌, ◌<◌}
use native.Mathlib.Omega.{arith}
use lib.Dec.{ltb}
use borrow.Author.Tests.{le-ltb, ltb-true, not-false}
use Rattle.grammar.specs.Refusal.{Checked, refused, accepted, checked}
use Rattle.grammar.specs.Sheet.{Grammar, grammar_of, sheet}
use Rattle.grammar.proofs.Accepted.{describes}
use Rattle.grammar.proofs.Refusals.{then, Each, each_append, each_also, refused_each, refused_exactly, accepted_same, accepted_none, checked_then, checked_below, checked_from}
use Rattle.schema.specs.Derivation.{Pair}
use Rattle.schema.specs.Handed.{Handed, handed_condition, handed_order, handed, question_of}
use Rattle.schema.proofs.CallRefusals.{call_numbers}
use Rattle.schema.proofs.Handed.{handed_sheet}
use lib.ListN.{length}
use Rattle.schema.specs.Table.{contents}
use Rattle.kept.specs.Differs.{DiffersAt, differs_elsewhere}
use Rattle.kept.specs.Kept.{retained}
use Rattle.kept.specs.Range.{cells_out}
use Rattle.kept.proofs.Differing.{then_differs}
use Rattle.correction.specs.Refusals.{condition_of, order_of, Refuses, callable, corrected_out, correction_condition, correction_order, further_condition, further_order}

module _ (s input : List ℕ) (x : Pair) (table work : ℕ) (own : Grammar → ℕ → ℕ → Bool) (order : List (ℕ × ℕ)) where
  abbrev question : Handed
  question = question_of input x table work

  -- The refusals, both ways.
  pub call_refused : (y l : ℕ) → callable s input x table work own order ≡ refused y l ↔ Refuses s input x table work own order y l
  unfolding callable
  call_refused y l = refused_exactly (condition_of s input x table work own order) (order_of s input x table work own order) (grammar_of s) y l

  module _ (late : Each (λ y. 18 ≤ y) order) where
    -- The question's, and then its own.
    call_parts : callable s input x table work own order ≡ then (handed s (question_of input x table work)) (checked (own (grammar_of s)) order (grammar_of s))
    unfolding callable condition_of order_of handed
    call_parts =
        let g = grammar_of s in
        let old = handed_condition s question in
        checked_then (condition_of s input x table work own order) (handed_order s) order g g
        ∙ ap₂ then (checked_below 18 (own g) old g (handed_order s) (each_also (λ y. y ≤ 11) (λ y. y < 18) (handed_order s) (λ y l. omega arith) (call_numbers s)))
        (checked_from 18 (own g) old g order late)

    -- The question's refusal is the call's;
    pub refused_before : (y l : ℕ) → handed s (question_of input x table work) ≡ refused y l → callable s input x table work own order ≡ refused y l
    refused_before y l e = call_parts ∙ rw e

    -- after an accepted question come its own.
    pub then_tested : (g : Grammar) → handed s (question_of input x table work) ≡ accepted g → callable s input x table work own order ≡ checked (own g) order g
    then_tested g e = call_parts ∙ rw e (ap (λ (k : Grammar). checked (own k) order k) (describes s g (handed_sheet s question g e)).grammar_is)

    -- Where the call is accepted, so is the question.
    pub question_accepted : (g : Grammar) → callable s input x table work own order ≡ accepted g → handed s (question_of input x table work) ≡ accepted g
    question_accepted g accepts = by_question (handed s question) refl
      where
        by_question : (o : Checked Grammar) → handed s question ≡ o → handed s question ≡ accepted g
        by_question (refused y m) e = let h = refused_before y m e in absurd (true≢false (cc))
        by_question (accepted k) e = e ∙ ap accepted (accepted_same (own k) order k g (sym (then_tested k e) ∙ accepts))

  -- Their numbers are no greater than those of the order.
  pub call_small : (most : ℕ) → 11 ≤ most → Each (λ y. y ≤ most) order → (y l : ℕ) → callable s input x table work own order ≡ refused y l → y ≤ most
  unfolding callable order_of
  call_small most few small y l e =
      refused_each (λ y. y ≤ most) (condition_of s input x table work own order) (order_of s input x table work own order) (grammar_of s) y l
      (each_append (λ y. y ≤ most) (handed_order s) order (each_also (λ y. y ≤ 11) (λ y. y ≤ most) (handed_order s) (λ y l. omega arith) (call_numbers s)) small) e

  -- A number from 18 on whose condition does not hold does not refuse.
  pub never_refused : (g : Grammar) → sheet s ≡ accepted g → (y l : ℕ) → 18 ≤ y → own g y l ≡ false → callable s input x table work own order ≢ refused y l
  unfolding condition_of
  never_refused g reads y l late none e = true≢false (sym (rw (le-ltb y 18 late, (describes s g reads).grammar_is) at ((call_refused y l).0 e).holds) ∙ none)

-- ---- The correction's own: 18, 21 and then 19.

pub correction_late : Each (λ y. 18 ≤ y) correction_order
correction_late = (omega arith, (omega arith, (omega arith, tt)))

pub correction_tested : (old input : List ℕ) (c : ℕ) (table : List ℕ) (g : Grammar) → checked (correction_condition old input c table g) correction_order g
    ≡ cond (corrected_out (length input) c) (refused 18 0)
    (cond (differs_elsewhere c old input) (refused 21 0)
    (cond (cells_out g.variables (length input) (retained (c + 1) (length input) table)) (refused 19 0) (accepted g)))
unfolding checked correction_condition
correction_tested old input c table g = refl

-- Where none of them holds, c is the position of a byte, and the two inputs differ there at most.
module _ (old input : List ℕ) (c : ℕ) (table : List ℕ) (g : Grammar) (none : checked (correction_condition old input c table g) correction_order g ≡ accepted g) where
  pub correction_below : c < length input
  unfolding correction_condition
  correction_below = ltb-true c (length input) (not-false (ltb c (length input)) (accepted_none (correction_condition old input c table g) correction_order g g none).0)

  pub correction_differs : DiffersAt c old input
  unfolding correction_condition
  correction_differs = then_differs c old input (accepted_none (correction_condition old input c table g) correction_order g g none).1.0

-- ---- The further question's own: 19.

pub further_late : Each (λ y. 18 ≤ y) further_order
further_late = (omega arith, tt)

pub further_tested : (input table : List ℕ) (g : Grammar) → checked (further_condition input table g) further_order g
    ≡ cond (cells_out g.variables (length input) (contents (length input) table)) (refused 19 0) (accepted g)
unfolding checked further_condition
further_tested input table g = refl
