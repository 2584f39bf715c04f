-- Where the walk ends: what its table says of the pairs. Assumes nothing.
use mathlib.Core.Path.{◌≡◌, refl, sym, ap, ◌∙◌, subst}
use mathlib.Core.Bool.{Bool}
use mathlib.Core.List.Memᴰ
use mathlib.Core.List.{List, [], ◌∷◌, map, Memᴰ}
use mathlib.Core.Logic.{◌⊎◌, inl, inr}
use Prim.Native.Nat.{ℕ, ◌*◌, ◌≤◌, ◌<◌}
use native.Mathlib.Omega.{arith}
use lib.ListN.{length}
use Rattle.calls.proofs.Ends.{End, end_value, end_loop, end_halt}
use Rattle.calls.proofs.Follow.{mem_in, in_mem}
use Rattle.calls.proofs.Holding.{reach_from, end_from}
use Rattle.calls.proofs.Invariant.{Kept}
use Rattle.calls.proofs.Trail.{at_root}
use Rattle.calls.proofs.Reach.{Reach}
use Rattle.calls.proofs.System.{Answer, value, halts, loops}
use Rattle.calls.proofs.Table.{Mark, blank, opened, settled}
use Rattle.grammar.specs.Rule.{Rule}
use Rattle.schema.specs.Cells.{held_at, stored}
use Rattle.schema.proofs.Cells.{view}
use Rattle.schema.specs.Closed.{Closed}
use Rattle.schema.specs.Derivation.{Pair, ◌at◌, Result, Stop, stops, act, result, stopped, loop}
use Rattle.schema.specs.Reached.{Reached}
use Rattle.schema.specs.Table.{Within, cell, cells, held, reach}
use Rattle.schema.proofs.Answer.{gts_cells, gts_bounded, MarkHas, reached_cell, cell_reached, end_has, end_named, end_full, end_marks}
use Rattle.schema.proofs.Held.{held_cells}
use Rattle.schema.proofs.Cell.{pair_of, PairWithin, cell_below, cell_pair, pair_cell, pair_within}
use Rattle.schema.proofs.System as schema
use Rattle.schema.proofs.System.{kind_of}
use Rattle.schema.proofs.Waiting as waiting
use Rattle.step.specs.Codes.{open_mark, Settled, Called, Given, result_of}
use Rattle.walk.specs.Walk.{Reaching, HeldAt, TableMeans, TableEnds}
use Rattle.step.proofs.Looking.{result_is}
use Rattle.walk.proofs.Bridge.{top_free, free_kind, called_link}
use Rattle.walk.proofs.RightTable.{right_marks}
use Rattle.walk.proofs.Marks.{mark, mark_open, mark_blank, stands}
use Rattle.step.proofs.Within.{called_within}
use Rattle.walk.proofs.Through.{Through, reaching_pair, start_bounded, settle_through, settle_there}

module _ (rule : ℕ → Rule) (s : List ℕ) (v : ℕ) (closed : Closed v rule) (short : length s ≤ 4096) (x : Pair) (w : PairWithin v (length s) x)
    (O T : List ℕ) (l : List ℕ) where
  module _ (rest : Through rule s v x O T l) (a : Answer Result Stop) (z : ℕ) (end : End (gts_cells rule s) (cells v (length s)) (view mark O) (cell (length s) x) (view mark T) a z)
      (kept : Kept (gts_cells rule s) (cells v (length s)) (view mark O)) (reaching : Reaching rule s v O) where
    held_at_law : (y : Pair) → Reached rule s x y → HeldAt rule s T (schema.outcome_of a) y
    held_at_law y r = go (mark (held (length s) T y)) refl
      where
        n : ℕ
        n = length s

        within : PairWithin v n y
        within = (reached_cell rule s v closed x w r).0

        below : cell n y < cells v n
        below = cell_below v n y within

        has : (m : Mark Result) → mark (held n T y) ≡ m → MarkHas rule s y (schema.outcome_of a) m
        has m e = subst (λ (u : Pair). MarkHas rule s u (schema.outcome_of a) m) (pair_cell v n y within) (end_marks rule s v closed x w end (cell n y) m below e)

        go : (m : Mark Result) → mark (held n T y) ≡ m → HeldAt rule s T (schema.outcome_of a) y
        go blank e = absurd (end_full rule s v closed x w end r e)
        go opened e = inr (has opened e, stands n (held n T y) opened (rest.fits (cell n y) below) e)
        go (settled t) e =
            let m = stands n (held n T y) (settled t) (rest.fits (cell n y) below) e in
            inl (t, has (settled t) e, m, reaching_pair rule s v T (rest.reaching reaching) y t within m)

    -- A cell that changed is that of a reached pair.
    changed_reached : (A p : ℕ) → Within v (length s) A p
        → ((held (length s) T (A at p) ≡ held (length s) O (A at p)) × (reach (length s) T (A at p) ≡ reach (length s) O (A at p)) → ⊥) → Reached rule s x (A at p)
    changed_reached A p i d = go (rest.changed (cell (length s) (A at p)) (cell_below v (length s) (A at p) i))
      where
        go : ((held (length s) T (A at p) ≡ held (length s) O (A at p)) × (reach (length s) T (A at p) ≡ reach (length s) O (A at p)))
            ⊎ Reach (held_cells rule s (view mark O)) (cell (length s) x) (cell (length s) (A at p)) → Reached rule s x (A at p)
        go (inl e) = absurd (d e)
        go (inr r) =
            subst (Reached rule s x) (pair_cell v (length s) (A at p) i)
            (cell_reached rule s v closed x w
            (reach_from (gts_cells rule s) (view mark O) (cells v (length s)) (gts_bounded rule s v closed) kept (cell_below v (length s) x w) r).1)

    table_means : (named : Pair) → waiting.named_of a (pair_of (length s) z) ≡ named → TableMeans rule s v x O T (schema.outcome_of a) named
    table_means named f = record { has = end_has rule s v closed x w end; names = rw (← f) (end_named rule s v closed x w end); reached = held_at_law; others = λ A p i d. changed_reached A p i (λ e. d e.0); others_reach = λ A p i d. changed_reached A p i (λ e. d e.1) }

  module _ (rest : Through rule s v x O T l) (a : Answer Result Stop) (z : ℕ)
      (end : End (held_cells rule s (view mark O)) (cells v (length s)) (view mark O) (cell (length s) x) (view mark T) a z) where
    on_trail : (A p : ℕ) → Within v (length s) A p → held (length s) T (A at p) ≡ open_mark → Memᴰ (A at p) (map (pair_of (length s)) l)
    on_trail A p i e =
        let b = cell_below v (length s) (A at p) i in
        let o = rest.inv.open_on (cell (length s) (A at p)) b (mark_open (held (length s) T (A at p)) e) in
        subst (λ (u : Pair). Memᴰ u (map (pair_of (length s)) l)) (pair_cell v (length s) (A at p) i)
        (Memᴰ.map (pair_of (length s)) (in_mem (cell (length s) (A at p)) l o))

    trail_open : (A p : ℕ) → Memᴰ (A at p) (map (pair_of (length s)) l) → Within v (length s) A p × (held (length s) T (A at p) ≡ open_mark)
    trail_open A p m =
        let o = Memᴰ.of_map (pair_of (length s)) l m in
        let i = mem_in o.0 l o.1 in
        let e : o.0 ≡ cell (length s) (A at p) = sym (cell_pair (length s) o.0) ∙ ap (cell (length s)) o.2 in
        let b = rest.inv.below o.0 i in (
          subst (PairWithin v (length s)) o.2 (pair_within v (length s) o.0 b),
          subst (λ (u : ℕ). held_at T u ≡ open_mark) e (stands (length s) (held_at T o.0) opened (rest.fits o.0 b) (rest.inv.on_open o.0 i)),
        )

    -- The table at the end.
    pub table_ends : (named : Pair) → waiting.named_of a (pair_of (length s) z) ≡ named
        → TableEnds rule s v x O T (schema.outcome_of a) named (map (pair_of (length s)) l)
    table_ends named f = record {
      means = λ right.
          let k = right_marks rule s v closed short O rest.fits_before right in
          table_means rest a z
          (end_from (gts_cells rule s) (view mark O) (cells v (length s)) (gts_bounded rule s v closed) k (cell_below v (length s) x w) end) k right.reaching named f;
      asked = λ z. rest.inv.root_full (ap mark z ∙ mark_blank 0 (record { no_failure = λ e. omega arith; no_success = omega arith }));
      on_trail = on_trail;
      trail_open = trail_open;
      later = rest.later;
      size = rest.size;
    }

-- ---- The three ways to end, from what holds all through.

module _ (rule : ℕ → Rule) (s : List ℕ) (v : ℕ) (closed : Closed v rule) (few : v ≤ 256) (short : length s ≤ 4096) {x : Pair} (w : PairWithin v (length s) x)
    {O T : List ℕ} {a p : ℕ} {stack : List ℕ} (within : Within v (length s) a p) (g : Through rule s v x O T (cell (length s) (a at p) ∷ stack)) where
  root_below : cell (length s) x < cells v (length s)
  root_below = cell_below v (length s) x w

  abbrev opens_here : List Pair
  opens_here = map (pair_of (length s)) (cell (length s) (a at p) ∷ stack)

  -- The latest open pair is the first.
  pub stops_here : (ps : List Pair) × (opens_here ≡ (a at p) ∷ ps)
  stops_here = (map (pair_of (length s)) stack, ap (λ (y : Pair). y ∷ map (pair_of (length s)) stack) (pair_cell v (length s) (a at p) within))

  -- A called pair is open.
  pub again_ends : {k : Bool} (b q : ℕ) → Called rule s T k (a at p) (b at q) → held (length s) T (b at q) ≡ open_mark
      → TableEnds rule s v x O T loop (b at q) opens_here
  again_ends b q c e =
      table_ends rule s v closed short x w O T (cell (length s) (a at p) ∷ stack) g loops (cell (length s) (b at q))
      (end_loop (held_cells rule s (view mark O)) (cells v (length s)) (start_bounded rule s v closed O g.fits_before) root_below g.inv
      (called_link rule s v closed short O T within (top_free O T (cell (length s) (a at p)) g.inv) c)
      (mark_open (held (length s) T (b at q)) e))
      (b at q) (pair_cell v (length s) (b at q) (called_within rule s v closed within c))

  -- The pair has no rule.
  pub stuck_ends : (t : Stop) → act rule s (a at p) ≡ stops t → TableEnds rule s v x O T (stopped t) (a at p) opens_here
  stuck_ends t e =
      table_ends rule s v closed short x w O T (cell (length s) (a at p) ∷ stack) g (halts t) (cell (length s) (a at p))
      (end_halt (held_cells rule s (view mark O)) (cells v (length s)) (start_bounded rule s v closed O g.fits_before) root_below g.inv
      (free_kind rule s v closed short O T (a at p) within (top_free O T (cell (length s) (a at p)) g.inv) ∙ ap kind_of e))
      (a at p) (pair_cell v (length s) (a at p) within)

  -- The asked pair has its result.
  pub settle_ends : (room : 2 * cells v (length s) ≤ length O) (c : ℕ) (r : Result) → Settled (length s) c r → (far : ℕ) → Given rule s T (a at p) r far
      → cell (length s) (a at p) ≡ cell (length s) x → TableEnds rule s v x O (stored T (cell (length s) (a at p)) c far) (result (result_of c)) (0 at 0) []
  settle_ends room c r m far h e =
      let top = cell (length s) (a at p) in
      let z = at_root (held_cells rule s (view mark O)) e g.inv.trail in
      let t = subst (Through rule s v x O (stored T top c far)) z (settle_through rule s v closed few short within g room c r m far h) in
      let f = settle_there rule s v closed few short within g room c r m far h in
      subst (λ (u : Result). TableEnds rule s v x O (stored T top c far) (result u) (0 at 0) []) (sym (result_is (length s) c r m))
      (table_ends rule s v closed short x w O (stored T top c far) [] t (value r) (cell (length s) x)
      (end_value (held_cells rule s (view mark O)) (cells v (length s)) (start_bounded rule s v closed O g.fits_before) root_below (cell (length s) x) t.inv
      (ap (view mark (stored T top c far)) (sym e) ∙ f)) (0 at 0) refl)
