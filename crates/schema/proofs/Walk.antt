-- The executable walk over a blank table gives the outcome of a pair, the pair that it names, and the number of pairs reached. Assumes nothing.
use mathlib.Core.List.{List}
use mathlib.Core.Logic.{◌↔◌}
use mathlib.Core.Path.{◌≡◌, refl}
use Prim.Native.Nat.{ℕ, ◌≤◌}
use lib.ListN.{length}
use Rattle.calls.proofs.Ask.{ask_ends, ask_decides}
use Rattle.calls.proofs.Count.{Count, count_map, count_le}
use Rattle.calls.proofs.Ends.{End}
use Rattle.calls.proofs.Invariant.{blank_kept}
use Rattle.calls.proofs.System.{Answer}
use Rattle.calls.proofs.Table.{blank, count_fresh}
use Rattle.calls.proofs.Walk.{Walked, ask}
use Rattle.grammar.specs.Rule.{Rule}
use Rattle.schema.specs.Derivation.{Pair, Result, Stop, Outcome, Has}
use Rattle.schema.specs.Reached.{Reached, Named, Number}
use Rattle.schema.specs.Table.{cell, cells}
use Rattle.schema.proofs.Answer.{gts_cells, gts_bounded, means_cell, reached_cell, end_has, end_named, end_count}
use Rattle.schema.proofs.Cell.{pair_of, PairWithin, cell_below}
use Rattle.schema.specs.Closed.{Closed}
use Rattle.schema.proofs.Counted.{number_cells}
use Rattle.schema.proofs.System.{outcome_of}
use Rattle.schema.proofs.Waiting.{named_of}

-- The walk for a pair of v variables and an input, and what it gives.
unfoldable pub walked : (ℕ → Rule) → List ℕ → ℕ → Pair → Walked Result Stop
walked rule s v x = ask (gts_cells rule s) (cells v (length s)) (λ i. blank) (cell (length s) x)

-- The outcome that it gives.
abbrev pub outcome_in : Walked Result Stop → Outcome
outcome_in w = outcome_of w.answer

-- The pair that it names.
abbrev pub name_in : ℕ → Walked Result Stop → Pair
name_in n w = named_of w.answer (pair_of n w.name)

-- The count of cells that it leaves non-blank.
abbrev pub count_in : ℕ → ℕ → Walked Result Stop → ℕ
count_in v n w = count_fresh (λ i. blank) w.table (cells v n)

module _ (rule : ℕ → Rule) (s : List ℕ) (v : ℕ) (closed : Closed v rule) (x : Pair) (w : PairWithin v (length s) x) where
  walk_end : let r = walked rule s v x in End (gts_cells rule s) (cells v (length s)) (λ i. blank) (cell (length s) x) r.table r.answer r.name
  unfolding walked
  walk_end =
      ask_ends (gts_cells rule s) (cells v (length s)) (λ i. blank) (cell (length s) x) (gts_bounded rule s v closed) (cell_below v (length s) x w)
      (blank_kept (gts_cells rule s) (cells v (length s)))

  -- The walk answers a exactly where the pair has that outcome.
  pub walk_decides : (a : Answer Result Stop) → ((walked rule s v x).answer ≡ a) ↔ Has rule s x (outcome_of a)
  unfolding walked
  walk_decides a =
      let d =
      ask_decides (gts_cells rule s) (cells v (length s)) (λ i. blank) (cell (length s) x) (gts_bounded rule s v closed) (cell_below v (length s) x w)
      (blank_kept (gts_cells rule s) (cells v (length s))) a in
      let m = means_cell rule s v closed x a w in
      (λ e. m.0 (d.0 e), λ h. d.1 (m.1 h))

  -- A pair has an outcome: success with an end, failure, missing, or loop;
  pub walk_has : Has rule s x (outcome_in (walked rule s v x))
  walk_has = end_has rule s v closed x w walk_end

  -- the outcome names a pair;
  pub walk_named : Named rule s x (outcome_in (walked rule s v x)) (name_in (length s) (walked rule s v x))
  walk_named = end_named rule s v closed x w walk_end

  walk_count : Count (λ i. Reached rule s x (pair_of (length s) i)) (cells v (length s)) (count_in v (length s) (walked rule s v x))
  walk_count = count_map (λ i l. (λ h. h.1, λ h. (refl, h))) (end_count rule s v closed x w walk_end)

  -- and the pairs reached are counted,
  pub walk_number : Number (Reached rule s x) (count_in v (length s) (walked rule s v x))
  walk_number = number_cells v (length s) (Reached rule s x) (λ y r. (reached_cell rule s v closed x w r).0) walk_count

  -- never more than V times (n + 1).
  pub walk_count_le : count_in v (length s) (walked rule s v x) ≤ cells v (length s)
  walk_count_le = count_le walk_count

  -- So every pair has an outcome, a pair that it names, and a number of pairs reached.
  pub answered : (o : Outcome) × (z : Pair) × (c : ℕ) × Has rule s x o × Named rule s x o z × Number (Reached rule s x) c
  answered =
      let r = walked rule s v x in
      (outcome_in r, name_in (length s) r, count_in v (length s) r, walk_has, walk_named, walk_number)
