-- The cells of a closed grammar as a system of calls, and what the end of a walk over them says of the pairs. Assumes nothing.
use mathlib.Core.List.{List}
use mathlib.Core.Logic.{◌⊎◌, inl, inr, ◌≢◌, ◌↔◌}
use mathlib.Core.Path.{◌≡◌, subst}
use Prim.Native.Nat.{ℕ, ◌<◌}
use lib.ListN.{length}
use Rattle.calls.proofs.Count.{Count, count_map}
use Rattle.calls.proofs.Ends.{End}
use Rattle.calls.proofs.Invariant.{Bounded}
use Rattle.calls.proofs.Laws.{stays_means, fresh_count}
use Rattle.calls.proofs.Numbered.{numbered, bounded, means_number, means_pair, reach_number, reach_pair, named_pair}
use Rattle.calls.proofs.Reach.{Reach}
use Rattle.calls.proofs.System.{System, Answer, value, Means}
use Rattle.calls.proofs.Table.{Mark, blank, opened, settled, count_fresh}
use Rattle.grammar.specs.Rule.{Rule}
use Rattle.schema.specs.Derivation.{Pair, Result, Stop, Outcome, result, Has}
use Rattle.schema.specs.Reached.{Reached, Named}
use Rattle.schema.specs.Table.{cell, cells}
use Rattle.schema.proofs.Cell.{pair_of, PairWithin, cell_below, pair_cell, cell_pair}
use Rattle.schema.specs.Closed.{Closed}
use Rattle.schema.proofs.Closed.{numbering}
use Rattle.schema.proofs.System.{gts, outcome_of, means_has}
use Rattle.schema.proofs.Waiting.{to_reach, from_reach, named_of, from_named}

-- The gTS over cell numbers.
abbrev pub gts_cells : (ℕ → Rule) → List ℕ → System ℕ Result Stop
gts_cells rule s = numbered (gts rule s) (cell (length s)) (pair_of (length s))

-- The outcome that a mark stands for, where the question's is o; a blank one stands for none.
abbrev pub MarkHas : (ℕ → Rule) → List ℕ → Pair → Outcome → Mark Result → Type 0
MarkHas rule s y o blank = Unit {0}
MarkHas rule s y o opened = Has rule s y o
MarkHas rule s y o (settled r) = Has rule s y (result r)

module _ (rule : ℕ → Rule) (s : List ℕ) (v : ℕ) (closed : Closed v rule) where
  -- What the walk asks of a system.
  pub gts_bounded : Bounded (gts_cells rule s) (cells v (length s))
  gts_bounded = bounded (numbering rule s v closed)

  -- A pair's cell means the pair's outcome.
  pub means_cell : (x : Pair) (a : Answer Result Stop) → PairWithin v (length s) x → Means (gts_cells rule s) (cell (length s) x) a ↔ Has rule s x (outcome_of a)
  means_cell x a w =
      let m = means_number (numbering rule s v closed) x a w in
      let h = means_has rule s x a in
      (λ g. h.0 (m.1 g), λ g. m.0 (h.1 g))

  has_at : (i : ℕ) (a : Answer Result Stop) → i < cells v (length s) → Means (gts_cells rule s) i a → Has rule s (pair_of (length s) i) (outcome_of a)
  has_at i a l m = (means_has rule s (pair_of (length s) i) a).0 ((means_pair (numbering rule s v closed) i a l).0 m)

  module _ (x : Pair) (w : PairWithin v (length s) x) where
    -- What is reached from a pair is within, and its cell is reached from the pair's cell; and back.
    pub reached_cell : {y : Pair} → Reached rule s x y → PairWithin v (length s) y × Reach (gts_cells rule s) (cell (length s) x) (cell (length s) y)
    reached_cell r = reach_number (numbering rule s v closed) x w (to_reach rule s r)

    -- A reached cell is that of a reached pair.
    pub cell_reached : {i : ℕ} → Reach (gts_cells rule s) (cell (length s) x) i → Reached rule s x (pair_of (length s) i)
    cell_reached r = from_reach rule s x (reach_pair (numbering rule s v closed) x w r).1

    -- The end of a walk for the question x, over the table O, with the table T, the answer a and the named cell z.
    module _ {O T : ℕ → Mark Result} {a : Answer Result Stop} {z : ℕ} (end : End (gts_cells rule s) (cells v (length s)) O (cell (length s) x) T a z) where
      -- The pair has the outcome that the walk answers,
      pub end_has : Has rule s x (outcome_of a)
      end_has = (means_cell x a w).0 end.means

      -- and names the pair that the walk names.
      pub end_named : Named rule s x (outcome_of a) (named_of a (pair_of (length s) z))
      end_named =
          let n = numbering rule s v closed in
          from_named rule s x (pair_of (length s) z) a ((means_number n x a w).1 end.means) (named_pair n x w a z end.named)

      -- A reached pair's cell is not blank.
      pub end_full : {y : Pair} → Reached rule s x y → T (cell (length s) y) ≢ blank
      end_full {y} r = (end.found (cell (length s) y) (reached_cell r).1).1

      -- A cell that is not blank was settled before, or its pair is reached.
      pub end_only : (y : Pair) → PairWithin v (length s) y
          → T (cell (length s) y) ≢ blank → ((r : Result) × (O (cell (length s) y) ≡ settled r)) ⊎ Reached rule s x y
      end_only y u n = elim (end.only (cell (length s) y) (cell_below v (length s) y u) n) [
        | inl k ↦ inl k
        | inr r ↦ inr (subst (Reached rule s x) (pair_cell v (length s) y u) (cell_reached r))
      ]

      -- Each mark stands for its pair's outcome.
      pub end_marks : (i : ℕ) (m : Mark Result) → i < cells v (length s) → T i ≡ m → MarkHas rule s (pair_of (length s) i) (outcome_of a) m
      end_marks i blank l e = tt
      end_marks i opened l e = has_at i a l (stays_means (gts_cells rule s) i a (end.opens i l e))
      end_marks i (settled r) l e = has_at i (value r) l (end.sound i r l e).right

      -- The reached pairs whose cells were blank are counted over the table.
      pub end_count : Count (λ i. (O i ≡ blank) × Reached rule s x (pair_of (length s) i)) (cells v (length s)) (count_fresh O T (cells v (length s)))
      end_count = count_map (λ i l. (λ h. (h.0, cell_reached h.1), λ h. (h.0, there i h.1))) (fresh_count (gts_cells rule s) (cells v (length s)) end)
        where
          there : (i : ℕ) → Reached rule s x (pair_of (length s) i) → Reach (gts_cells rule s) (cell (length s) x) i
          there i r = subst (Reach (gts_cells rule s) (cell (length s) x)) (cell_pair (length s) i) (reached_cell r).1
