-- What was promised of a correction before it was shown the old entry, beside what is promised now. Assumes nothing.
use mathlib.Core.Bool.{false}
use mathlib.Core.List.{List}
use mathlib.Core.Path.{◌≡◌, refl, sym, ◌∙◌, subst}
use Prim.Native.Nat.{ℕ, ◌+◌, ◌≤◌}
use native.Mathlib.Omega.{arith}
use lib.ListN.{length}
use Rattle.std.specs.Prelude.{Result}
use Rattle.grammar.specs.Refusal.{Checked, refused, accepted, checked}
use Rattle.grammar.specs.Sheet.{Grammar}
use Rattle.grammar.proofs.Refusals.{Each}
use Rattle.schema.specs.Derivation.{Pair, ◌at◌}
use Rattle.schema.specs.Handed.{Handed, handed, question_of}
use Rattle.finish.specs.Reply.{Reply, told}
use Rattle.grammar.specs.declared.refusal.Refusal.{Refusal}
use Rattle.finish.specs.declared.Answer.{Answer}
use Rattle.kept.specs.Differs.{differs_elsewhere}
use Rattle.kept.specs.Kept.{retained}
use Rattle.kept.proofs.Differing.{then_differs}
use Rattle.correction.specs.Call.{KeptOf, Replies}
use Rattle.correction.specs.Refusals.{correction_condition, correction_order, correctable, callable}
use Rattle.correction.specs.Unshown.{unshown_order, BesideUnshown}
use Rattle.correction.proofs.Refusing.{refused_before, then_tested, correction_late}

-- A promise of less: from a table of which more is known.
promised_of : (found : Checked Grammar) (input : List ℕ) (x : Pair) (Kept Of : Grammar → Type 0) (start : Pair → ℕ × ℕ) (table table' work work' : List ℕ) (t : Checked Reply)
    → ((g : Grammar) → Of g → Kept g) → Replies found input x Kept start table table' work work' t → Replies found input x Of start table table' work work' t
promised_of (refused y l) input x Kept Of start table table' work work' t known promise = promise
promised_of (accepted g) input x Kept Of start table table' work work' t known promise =
    record {
      replies = promise.replies;
      accepts = promise.accepts;
      small = promise.small;
      later = promise.later;
      size = promise.size;
      beyond = promise.beyond;
      work_size = promise.work_size;
      from_kept = λ k. promise.from_kept (known g k);
    }

module _ (s old input : List ℕ) (A p c : ℕ) (table work : List ℕ) where
  abbrev question : Handed
  question = question_of input (A at p) (length table) (length work)

  abbrev unshown : Checked Grammar
  unshown = callable s input (A at p) (length table) (length work) (correction_condition input input c table) unshown_order

  unshown_late : Each (λ y. 18 ≤ y) unshown_order
  unshown_late = (omega arith, (omega arith, tt))

  -- Behind an accepted question both have the same refusals,
  own_same : differs_elsewhere c old input ≡ false → (g : Grammar)
      → checked (correction_condition old input c table g) correction_order g ≡ checked (correction_condition input input c table g) unshown_order g
  unfolding checked correction_condition
  own_same same g = rw same

  -- so that both are refused or accepted alike.
  found_same : differs_elsewhere c old input ≡ false → correctable s old input (A at p) c table (length work) ≡ unshown
  found_same same = by_question (handed s question) refl
    where
      by_question : (o : Checked Grammar) → handed s question ≡ o → correctable s old input (A at p) c table (length work) ≡ unshown
      by_question (refused y l) e =
          refused_before s input (A at p) (length table) (length work) (correction_condition old input c table) correction_order correction_late y l e
          ∙ sym (refused_before s input (A at p) (length table) (length work) (correction_condition input input c table) unshown_order unshown_late y l e)
      by_question (accepted g) e =
          then_tested s input (A at p) (length table) (length work) (correction_condition old input c table) correction_order correction_late g e
          ∙ own_same same g
          ∙ sym (then_tested s input (A at p) (length table) (length work) (correction_condition input input c table) unshown_order unshown_late g e)

  pub beside_unshown : (table' work' : List ℕ) (r : Result Answer Refusal) → BesideUnshown s old input A p c table table' work work' r
  beside_unshown table' work' r =
      let start = retained (c + 1) (length input) table in
      record {
        meets = λ same promise.
            subst (λ (found : Checked Grammar). Replies found input (A at p) (KeptOf old table) start table table' work work' (told r)) (sym (found_same same))
            (promised_of unshown input (A at p) _ (KeptOf old table) start table table' work work' (told r) (λ g k. (old, then_differs c old input same, k)) promise);
        back = λ same promise.
            subst (λ (found : Checked Grammar). Replies found input (A at p) (KeptOf old table) start table table' work work' (told r)) (found_same same) promise;
      }
