-- The output is one. Assumes nothing.
use mathlib.Core.Bool.{Bool, true, false}
use mathlib.Core.List.{List, ◌++◌}
use mathlib.Core.Path.{◌≡◌, sym, ap, ◌∙◌, subst}
use Prim.Native.Nat.{ℕ}
use lib.Dec.{ltb}
use lib.ListN.{length, drop}
use Rattle.columns.specs.Column.{row}
use Rattle.grammar.specs.Refusal.{Checked, refused, accepted}
use Rattle.grammar.specs.Rule.{Rule}
use Rattle.grammar.specs.Sheet.{Grammar}
use Rattle.schema.specs.Derivation.{Pair, ◌at◌, Outcome}
use Rattle.schema.specs.Handed.{handed, verdict_of}
use Rattle.schema.specs.Line.{Line, lines_bytes}
use Rattle.schema.specs.Reached.{Named}
use Rattle.schema.proofs.Laws.{has_one, named_one, number_one}
use Rattle.finish.specs.Reply.{reply}
use Rattle.verdict.specs.Verdict.{judged}
use Rattle.writer.specs.Writer.{Lines}
use Rattle.writer.proofs.OneWritten.{lines_one}
use Rattle.output.specs.Output.{Printed, Printing, PutsWhere, OutputPromise}

-- The bytes for an answer are one.
printed_one : (rule : ℕ → Rule) (input : List ℕ) (x : Pair) (bytes others : List ℕ) → Printed rule input x bytes → Printed rule input x others → bytes ≡ others
printed_one rule input x bytes others m k =
    let n = length input in
    let o = has_one rule input x m.outcome k.outcome m.has k.has in
    let z = named_one rule input x m.named k.named k.outcome (subst (λ (u : Outcome). Named rule input x u m.named) o m.names) k.names in
    let c = number_one m.counts k.counts in
    let ls = lines_one rule input x k.outcome m.lines k.lines (subst (λ (u : Outcome). Lines rule input x u m.lines) o m.ordered) k.ordered in
    m.says
    ∙ ap (λ (u : Outcome). row 8 (judged n (accepted (reply u m.named m.count))) ++ lines_bytes m.lines) o
    ∙ ap (λ (u : Pair). row 8 (judged n (accepted (reply k.outcome u m.count))) ++ lines_bytes m.lines) z
    ∙ ap (λ (u : ℕ). row 8 (judged n (accepted (reply k.outcome k.named u))) ++ lines_bytes m.lines) c
    ∙ ap (λ (u : List Line). row 8 (judged n (accepted (reply k.outcome k.named k.count))) ++ lines_bytes u) ls
    ∙ sym k.says

printing_one : (o : Checked Grammar) (input bytes others : List ℕ) → Printing o input bytes → Printing o input others → bytes ≡ others
printing_one (refused x l) input bytes others m k = m ∙ sym k
printing_one (accepted g) input bytes others m k = printed_one g.rule input (g.start at 0) bytes others m k

-- One output only: the same length and the same bytes.
pub one_output : (s input out out' out'' : List ℕ) (r t : ℕ) → OutputPromise s input out out' r → OutputPromise s input out out'' t → (r ≡ t) × (out' ≡ out'')
one_output s input out out' out'' r t one other = by_test (ltb (length out) 50209) one other
  where
    by_test : (b : Bool) → PutsWhere b s input out out' r → PutsWhere b s input out out'' t → (r ≡ t) × (out' ≡ out'')
    by_test true m k = (m.0 ∙ sym k.0, m.1 ∙ sym k.1)
    by_test false m k =
        let same = printing_one (handed s (verdict_of input 2048 1024)) input m.0 k.0 m.1 k.1 in
        (m.2 ∙ ap length same ∙ sym k.2, m.3 ∙ ap (λ (b : List ℕ). b ++ drop (length b) out) same ∙ sym k.3)
