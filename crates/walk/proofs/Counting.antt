-- Each step of the walk gives the called pair's cell its first number where it is blank, and no other cell. Assumes nothing.
use mathlib.Core.Path.{◌≡◌, refl, ap, ◌∙◌}
use mathlib.Core.List.{List, ◌∷◌}
use mathlib.Core.Logic.{inl, inr, ◌≢◌}
use Prim.Native.Nat.{ℕ, ◌+◌, ◌*◌, ◌≤◌, ◌<◌}
use native.Mathlib.Omega.{arith}
use lib.ListN.{length}
use Rattle.calls.proofs.Table.{opened}
use Rattle.grammar.specs.Rule.{Rule}
use Rattle.schema.specs.Cells.{held_at, stored, HasCell}
use Rattle.schema.specs.Closed.{Closed}
use Rattle.schema.specs.Derivation.{Pair, ◌at◌, Result}
use Rattle.schema.specs.Table.{cell, cells, decided, held}
use Rattle.schema.proofs.Cell.{cell_below}
use Rattle.step.specs.Codes.{open_mark, fresh}
use Rattle.walk.specs.Walk.{Counts, before, WalkReady}
use Rattle.step.specs.Step.{LookedUp, settled_before, leaf_settled, top_of, called_of, Settles, Opens, StepEnds, Steps}
use Rattle.step.specs.declared.State.{State}
use Rattle.std.specs.declared.ops.ControlFlow.TheVariants.{Continue}
use Rattle.step.specs.declared.Walk.{Walk}
use Rattle.step.specs.declared.Walk.TheVariants as walk
use Rattle.step.proofs.Looking.{fresh_not}
use Rattle.walk.proofs.Decided.{decided_stored, decided_most}
use Rattle.cells.proofs.Numbers.{cells_small}
use Rattle.walk.proofs.Marks.{stands, settled_full}
use Rattle.walk.proofs.Standing.{Standing}
use Rattle.walk.proofs.Stepping.{known}
use Rattle.walk.proofs.Still.{room_before}
use Rattle.step.proofs.Within.{called_within}
use Rattle.walk.proofs.Through.{Through}

module _ (rule : ℕ → Rule) (s : List ℕ) (v : ℕ) (closed : Closed v rule) (few : v ≤ 256) (short : length s ≤ 4096) {x : Pair} {O U T W : List ℕ} {y : State}
    (g : Standing rule s v x O U T W y) (room : 2 * cells v (length s) ≤ length O) where
  abbrev N : ℕ
  N = cells v (length s)

  abbrev new : ℕ
  new = fresh (held (length s) T (called_of y))

  called_below : cell (length s) (called_of y) < N
  called_below = cell_below v (length s) (called_of y) (called_within rule s v closed g.within g.called)

  called_in : HasCell T (cell (length s) (called_of y))
  called_in = let l = called_below in let e = g.through.size in omega arith

  -- Looking up,
  looked_counts : {r : Result} {T' : List ℕ} → LookedUp rule s T (called_of y) r T' → Counts N T T' new
  looked_counts {r} (settled_before m) = let e = fresh_not (held (length s) T (called_of y)) (settled_full r m) in omega arith
  looked_counts {r} (leaf_settled {c} {m = far} u e m j) = decided_stored T N (cell (length s) (called_of y)) c far called_below called_in (settled_full r m)

  -- opening,
  opens_counts : {T' W' : List ℕ} → Opens s T W T' W' y → Counts N T T' new
  opens_counts o = ap (λ (M : List ℕ). decided N M) o.table_is ∙ decided_stored T N (cell (length s) (called_of y)) open_mark 0 called_below called_in (λ z. omega arith)

  -- settling the latest open pair,
  top_full : {T₁ : List ℕ} → Through rule s v x O T₁ (cell (length s) (top_of y) ∷ g.stack) → held (length s) T₁ (top_of y) ≢ 0
  top_full {T₁} t z =
      let i = cell (length s) (top_of y) in
      let e = stands (length s) (held_at T₁ i) opened (t.fits i (cell_below v (length s) (top_of y) g.within)) (t.inv.on_open i (inl refl)) in
      omega arith

  settles_counts : {T' W' : List ℕ} {c : ℕ} → Settles rule s T W T' W' y c → Counts N T T' new
  settles_counts {T'} {W'} {c} h =
      let i = cell (length s) (top_of y) in
      let t = (known rule s v closed few short g room h.looked_up).through in
      let l = cell_below v (length s) (top_of y) g.within in
      let z = t.size in
      let a = looked_counts h.looked_up in
      let b = decided_stored h.T₁ N i c h.m l (omega arith) (settled_full h.r h.code_is) in
      let f = fresh_not (held_at h.T₁ i) (top_full t) in
      let e = ap (λ (M : List ℕ). decided N M) h.table_is in
      omega arith

  -- and so every step.
  pub on_counts : (T' W' : List ℕ) (z : State) → Steps rule s T W T' W' y (Continue z) → Counts N T T' new
  on_counts T' W' z (inl h) = looked_counts h.looked_up
  on_counts T' W' z (inr (inl h)) = settles_counts h.1
  on_counts T' W' z (inr (inr h)) = opens_counts h.0

  pub end_counts : (T' W' : List ℕ) (z : Walk) → StepEnds rule s T W T' W' y z → Counts N T T' new
  end_counts T' W' (walk.Settled c) h = settles_counts h.0
  end_counts T' W' (walk.Loop A p B q d) h =
      let e = fresh_not (held (length s) T (called_of y)) (λ z. let o = h.opened in omega arith) in
      let t = ap (λ (M : List ℕ). decided N M) h.table_same in
      omega arith
  end_counts T' W' (walk.Missing A p d) h = opens_counts h.0

-- What holds before each step: the count so far is of the cells that were given their first number since the table T₀.
pub record Counting (rule : ℕ → Rule) (s : List ℕ) (v : ℕ) (x : Pair) (O U T₀ T W : List ℕ) (y : State) (count : ℕ) : Type 0 where
  pub standing : Standing rule s v x O U T W y
  pub counts : Counts (cells v (length s)) T₀ T count

module _ {rule : ℕ → Rule} {s : List ℕ} {v A p : ℕ} {T₀ W₀ : List ℕ} (r : WalkReady rule s v A p T₀ W₀) where
  module _ {T W : List ℕ} {y : State} {count : ℕ} (g : Counting rule s v (A at p) (before (length s) (A at p) T₀) W₀ T₀ T W y count) where
    -- The count fits.
    pub count_small : count ≤ 1048832
    count_small =
        let a = decided_most T (cells v (length s)) in
        let b = g.counts in
        let c = cells_small v (length s) r.walkable.few r.walkable.short in
        omega arith

    abbrev next : ℕ → Type 0
    next new = new ≡ fresh (held (length s) T (called_of y))

    pub counts_on : (T' W' : List ℕ) (z : State) (new : ℕ) → next new → Steps rule s T W T' W' y (Continue z) → Counts (cells v (length s)) T₀ T' (count + new)
    counts_on T' W' z new e h =
        let a = on_counts rule s v r.walkable.closed r.walkable.few r.walkable.short g.standing (room_before r) T' W' z h in
        let b = g.counts in
        omega arith

    pub counts_end : (T' W' : List ℕ) (z : Walk) (new : ℕ) → next new → StepEnds rule s T W T' W' y z → Counts (cells v (length s)) T₀ T' (count + new)
    counts_end T' W' z new e h =
        let a = end_counts rule s v r.walkable.closed r.walkable.few r.walkable.short g.standing (room_before r) T' W' z h in
        let b = g.counts in
        omega arith

  -- A leaf that is asked is open, and so is not new.
  pub asked_counts : (c far : ℕ) → c ≢ 0 → Counts (cells v (length s)) T₀ (stored T₀ (cell (length s) (A at p)) c far) 0
  asked_counts c far d =
      let l = cell_below v (length s) (A at p) r.within in
      let m = r.walkable.room in
      let o = r.opened in
      let a = decided_stored T₀ (cells v (length s)) (cell (length s) (A at p)) c far l (omega arith) d in
      let b = fresh_not (held (length s) T₀ (A at p)) (λ z. omega arith) in
      omega arith
