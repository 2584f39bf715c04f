-- The theorems of a verdict, about any result that meets the call's contract. Assumes nothing.
use mathlib.Core.List.{List}
use mathlib.Core.Logic.{◌↔◌}
use mathlib.Core.Path.{◌≡◌, refl, sym, ap, ◌∙◌, subst}
use Prim.Native.Nat.{ℕ}
use lib.ListN.{length}
use Rattle.std.specs.Prelude.{Result}
use Rattle.grammar.specs.declared.refusal.Refusal.{Refusal}
use Rattle.grammar.specs.Refusal.{Checked, refused, accepted}
use Rattle.grammar.specs.Sheet.{Grammar}
use Rattle.schema.specs.Derivation.{◌at◌, Outcome, Has}
use Rattle.schema.specs.Handed.{Handed, handed, verdict_of}
use Rattle.schema.specs.Reached.{Reached, Number}
use Rattle.schema.proofs.Handed.{handed_sheet}
use Rattle.schema.proofs.SheetClosed.{start_within}
use Rattle.finish.specs.Reply.{Reply, outcome_of, count_of}
use Rattle.memo.proofs.Result.{count_is, outcome_is, one_answer, one_table}
use Rattle.verdict.specs.Verdict.{numbers, judged, Judges, VerdictPromise}
use Rattle.verdict.specs.declared.Judgement.{Judgement}

module _ (s input table work : List ℕ) where
  abbrev asked : Handed
  asked = verdict_of input (length table) (length work)

  module _ (g : Grammar) (accepts : handed s (verdict_of input (length table) (length work)) ≡ accepted g) where
    -- The numbers of a verdict are those of the outcome that the start variable at 0 has, with the number of reached pairs.
    pub verdict_reply : (table' work' : List ℕ) (r : Result Judgement Refusal) → VerdictPromise s input table table' work work' r
        → (a : Reply) × (numbers r ≡ judged (length input) (accepted a)) × Number (Reached g.rule input (g.start at 0)) (count_of a)
        × ((o : Outcome) → Has g.rule input (g.start at 0) o ↔ (outcome_of a ≡ o))
    verdict_reply table' work' r promise =
        let j = subst (λ (o : Checked Grammar). Judges o input table table' work work' (numbers r)) accepts promise in
        let a = j.2 in (
          a.0,
          j.1 ∙ ap (judged (length input)) a.1,
          count_is s asked g accepts (g.start at 0) (start_within s g (handed_sheet s asked g accepts)) a.2,
          outcome_is s asked g accepts (g.start at 0) (start_within s g (handed_sheet s asked g accepts)) a.2,
        )

  -- One verdict only: the same numbers and the same table.
  pub one_verdict : (table' table'' work' work'' : List ℕ) (r t : Result Judgement Refusal) → VerdictPromise s input table table' work work' r
      → VerdictPromise s input table table'' work work'' t → (numbers r ≡ numbers t) × (table' ≡ table'')
  one_verdict table' table'' work' work'' r t one other = by_sheet (handed s asked) refl one other
    where
      by_sheet : (o : Checked Grammar) → handed s asked ≡ o → Judges o input table table' work work' (numbers r)
          → Judges o input table table'' work work'' (numbers t) → (numbers r ≡ numbers t) × (table' ≡ table'')
      by_sheet (refused x l) e m k = (m.0 ∙ sym k.0, m.1 ∙ sym k.1)
      by_sheet (accepted g) e m k =
          let a = m.2 in
          let b = k.2 in
          let same = one_answer s asked g e (g.start at 0) (start_within s g (handed_sheet s asked g e)) a.2 b.2 in (
            m.1 ∙ ap (judged (length input)) (a.1 ∙ ap accepted same ∙ sym b.1) ∙ sym k.1,
            one_table s asked g e (g.start at 0) (start_within s g (handed_sheet s asked g e)) a.2 b.2,
          )
