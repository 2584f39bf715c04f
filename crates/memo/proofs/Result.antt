-- What holds of any result that meets the promise of a question. Assumes nothing.
use mathlib.Core.Path.{◌≡◌, sym, ap, ◌∙◌, subst}
use mathlib.Core.Logic.{◌≢◌, ◌↔◌}
use mathlib.Core.List.{List}
use Prim.Native.Nat.{ℕ, zero, suc, ◌+◌, ◌/◌, ◌%◌, ◌≤◌, ◌<◌}
use native.Mathlib.Decide.{ℕ_discrete}
use lib.ListN.{length}
use Rattle.calls.proofs.Count.{Count, none, hit, miss, count_map, count_le}
use Rattle.grammar.specs.Refusal.{accepted}
use Rattle.grammar.specs.Sheet.{Grammar}
use Rattle.schema.specs.Cells.{held_at}
use Rattle.schema.specs.Closed.{Closed}
use Rattle.schema.specs.Derivation.{Pair, Outcome, Has}
use Rattle.schema.specs.Handed.{Handed, handed}
use Rattle.schema.specs.Reached.{Reached, Named, Number}
use Rattle.schema.specs.Table.{cells, decided}
use Rattle.schema.proofs.Answer.{reached_cell}
use Rattle.schema.proofs.Cell.{pair_of, held_pair, pair_within, PairWithin}
use Rattle.schema.proofs.Codes.{code_full}
use Rattle.schema.proofs.Counted.{number_cells}
use Rattle.schema.proofs.Handed.{handed_sheet}
use Rattle.schema.proofs.Laws.{has_one, named_one, number_one}
use Rattle.schema.proofs.SheetClosed.{sheet_closed}
use Rattle.finish.specs.Reply.{Reply, reply, outcome_of, count_of}
use Rattle.memo.specs.Answer.{Answers}
use Rattle.walk.proofs.Decided.{decided_blank, decided_more}
use Rattle.memo.proofs.TableOne.{table_one}

-- The count of decided cells counts the cells that are not blank.
pub decided_count : (T : List ℕ) (m : ℕ) → Count (λ i. held_at T i ≢ 0) m (decided m T)
unfolding decided
decided_count T zero = none
decided_count T (suc m) = elim (ℕ_discrete (held_at T m) 0) [
  | yes e ↦ subst (Count (λ i. held_at T i ≢ 0) (suc m)) (sym (decided_blank T m e)) (miss (λ d. d e) (decided_count T m))
  | no d ↦ subst (Count (λ i. held_at T i ≢ 0) (suc m)) (sym (decided_more T m d)) (hit d (decided_count T m))
]

-- ---- Of an answer, whatever call gave it.

module _ (s : List ℕ) (h : Handed) (g : Grammar) (accepts : handed s h ≡ accepted g) (x : Pair) (within : PairWithin g.variables (length h.input) x) where
  abbrev input : List ℕ
  input = h.input

  abbrev n : ℕ
  n = length h.input

  abbrev size : ℕ
  size = cells g.variables (length h.input)

  closed : Closed g.variables g.rule
  closed = sheet_closed s g (handed_sheet s h g accepts)

  module _ {table table' work work' : List ℕ} {a : Reply}
      (answers : Answers g.rule g.variables h.input x table table' work work' a) where
    -- A cell is blank exactly if its pair is not reached.
    filled : (i : ℕ) → i < size → (held_at table' i ≢ 0) ↔ Reached g.rule input x (pair_of n i)
    filled i l =
        let e = held_pair n table' i in (
          λ d. answers.leaves.others (i / (n + 1) + 1) (i % (n + 1)) (pair_within g.variables n i l) (λ q. d (sym e ∙ q)),
          λ r. let k = answers.leaves.holds (pair_of n i) r in λ q. code_full k.0 (sym k.2 ∙ e ∙ q),
        )

    counted : Count (λ i. Reached g.rule input x (pair_of n i)) size (decided size table')
    counted = count_map filled (decided_count table' size)

    -- The count is the number of reached pairs,
    pub count_is : Number (Reached g.rule h.input x) (count_of a)
    count_is =
        subst (Number (Reached g.rule input x)) (sym (ap count_of answers.says))
        (number_cells g.variables n (Reached g.rule input x) (λ y r. (reached_cell g.rule input g.variables closed x within r).0) counted)

    -- and at most V times (n + 1).
    pub count_most : count_of a ≤ cells g.variables (length h.input)
    count_most = subst (λ (k : ℕ). k ≤ size) (sym (ap count_of answers.says)) (count_le counted)

    -- A pair has the outcome that is answered, and no other.
    pub outcome_is : (o : Outcome) → Has g.rule h.input x o ↔ (outcome_of a ≡ o)
    outcome_is o =
        let e : outcome_of a ≡ answers.outcome = ap outcome_of answers.says in
        (λ d. e ∙ has_one g.rule input x answers.outcome o answers.has d, λ q. subst (Has g.rule input x) (sym e ∙ q) answers.has)

    -- What is answered, by the outcome, the named pair and the number of reached pairs.
    pub answer_is : (o : Outcome) (z : Pair) (c : ℕ) → Has g.rule h.input x o → Named g.rule h.input x o z → Number (Reached g.rule h.input x) c → a ≡ reply o z c
    answer_is o z c d named number =
        let p : answers.outcome ≡ o = has_one g.rule input x answers.outcome o answers.has d in
        let q : answers.named ≡ z = named_one g.rule input x answers.named z o (subst (λ (u : Outcome). Named g.rule input x u answers.named) p answers.names) named in
        let k : count_of a ≡ c = number_one count_is number in
        let e = answers.says in
        let f : count_of a ≡ decided size table' = ap count_of e in
        let m : decided size table' ≡ c = sym f ∙ k in
        cc

  -- Two answers to one question are the same, with the same table.
  module _ {table table' table'' work work' work'' : List ℕ} {a b : Reply}
      (one : Answers g.rule g.variables h.input x table table' work work' a)
      (other : Answers g.rule g.variables h.input x table table'' work work'' b) where
    pub one_answer : a ≡ b
    one_answer =
        let e : b ≡ reply other.outcome other.named (count_of b) = answer_is other other.outcome other.named (count_of b) other.has other.names (count_is other) in
        answer_is one other.outcome other.named (count_of b) other.has other.names (count_is other) ∙ sym e

    pub one_table : table' ≡ table''
    one_table = table_one one.leaves other.leaves (one.leaves.later ∙ sym other.leaves.later) (one.leaves.size ∙ sym other.leaves.size)
