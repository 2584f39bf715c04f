-- The refusals of a call, once its sheet is read. Assumes nothing.
use mathlib.Core.Path.{◌≡◌, refl, ap, sym, ◌∙◌, subst}
use mathlib.Core.Bool.{Bool, true, false, cond, not, ◌||◌}
use mathlib.Core.List.{List}
use Prim.Native.Nat.{ℕ, ◌*◌}
use lib.Dec.{ltb}
use lib.ListN.{length}
use Rattle.grammar.specs.Refusal.{Checked, refused, accepted, checked}
use Rattle.grammar.specs.Rule.{within}
use Rattle.grammar.specs.Sheet.{Grammar, sheet}
use Rattle.grammar.proofs.Accepted.{describes}
use Rattle.schema.specs.Derivation.{◌at◌}
use Rattle.schema.specs.Handed.{Handed, call_condition, call_order, handed, asked, question_of, verdict_of}
use Rattle.schema.specs.Table.{cells}
use Rattle.schema.proofs.CallRefusals.{handed_parts}

-- The sheet's refusal is the call's;
pub handed_refused : (s : List ℕ) (h : Handed) (x l : ℕ) → sheet s ≡ refused x l → handed s h ≡ refused x l
handed_refused s h x l e = handed_parts s h ∙ rw e

-- after an accepted sheet come the other tests.
pub handed_then : (s : List ℕ) (h : Handed) (g : Grammar) → sheet s ≡ accepted g → handed s h ≡ checked (call_condition g h) call_order g
handed_then s h g e = handed_parts s h ∙ rw e (ap (λ (k : Grammar). checked (call_condition k h) call_order k) (describes s g e).grammar_is)

-- A question by its tests for 6, 8 and 9.
pub asked_by : (s input : List ℕ) (g : Grammar) (A p : ℕ) {a b c : Bool} → sheet s ≡ accepted g
    → ltb 4096 (length input) ≡ a → within 1 g.variables A ≡ b → ltb (length input) p ≡ c
    → handed s (asked input (A at p)) ≡ cond a (refused 6 0) (cond (not b) (refused 8 0) (cond c (refused 9 0) (accepted g)))
unfolding checked call_condition
asked_by s input g A p e k l m = handed_then s (asked input (A at p)) g e ∙ rw (k, l, m)

-- ---- What the question adds: the lengths of its slices.

-- The tests of a question, once its sheet is read: 6, 8, 9, then 10.
questioned : (s input : List ℕ) (g : Grammar) (A p table work : ℕ) {a b c : Bool} → sheet s ≡ accepted g
    → ltb 4096 (length input) ≡ a → within 1 g.variables A ≡ b → ltb (length input) p ≡ c
    → handed s (question_of input (A at p) table work)
    ≡ cond a (refused 6 0) (cond (not b) (refused 8 0) (cond c (refused 9 0)
    (cond (ltb table (2 * cells g.variables (length input)) || ltb work (cells g.variables (length input))) (refused 10 0) (accepted g))))
unfolding checked call_condition
questioned s input g A p table work e k l m = handed_then s (question_of input (A at p) table work) g e ∙ rw (k, l, m)

-- A question is refused as its first part is; else 10 is tested.
module _ (s input : List ℕ) (A p table work : ℕ) where
  abbrev pub slices_out : Grammar → Bool
  slices_out g = ltb table (2 * cells g.variables (length input)) || ltb work (cells g.variables (length input))

  abbrev pub Follows : Checked Grammar → Type 0
  Follows (refused x l) = handed s (question_of input (A at p) table work) ≡ refused x l
  Follows (accepted g) = handed s (question_of input (A at p) table work) ≡ cond (slices_out g) (refused 10 0) (accepted g)

  pub question_follows : (o : Checked Grammar) → handed s (asked input (A at p)) ≡ o → Follows o
  question_follows o e = by_sheet (sheet s) refl
    where
      by_tests : (g : Grammar) (a b c : Bool) → sheet s ≡ accepted g → ltb 4096 (length input) ≡ a → within 1 g.variables A ≡ b → ltb (length input) p ≡ c
          → cond a (refused 6 0) (cond (not b) (refused 8 0) (cond c (refused 9 0) (accepted g))) ≡ o → Follows o
      by_tests g true b c h k l m f = subst Follows f (questioned s input g A p table work h k l m)
      by_tests g false false c h k l m f = subst Follows f (questioned s input g A p table work h k l m)
      by_tests g false true true h k l m f = subst Follows f (questioned s input g A p table work h k l m)
      by_tests g false true false h k l m f = subst Follows f (questioned s input g A p table work h k l m)

      by_sheet : (q : Checked Grammar) → sheet s ≡ q → Follows o
      by_sheet (refused x l) h =
          subst Follows (sym (handed_refused s (asked input (A at p)) x l h) ∙ e) (handed_refused s (question_of input (A at p) table work) x l h)
      by_sheet (accepted g) h =
          by_tests g (ltb 4096 (length input)) (within 1 g.variables A) (ltb (length input) p) h refl refl refl (sym (asked_by s input g A p h refl refl refl) ∙ e)

-- ---- The verdict.

-- A verdict by its tests for 6 and 10.
pub verdict_by : (s input : List ℕ) (g : Grammar) (table work : ℕ) (a c : Bool) → sheet s ≡ accepted g
    → ltb 4096 (length input) ≡ a
    → (ltb table (2 * cells g.variables (length input)) || ltb work (cells g.variables (length input))) ≡ c
    → handed s (verdict_of input table work) ≡ cond a (refused 6 0) (cond c (refused 10 0) (accepted g))
unfolding checked call_condition
verdict_by s input g table work a c e k m = handed_then s (verdict_of input table work) g e ∙ rw (k, m)
