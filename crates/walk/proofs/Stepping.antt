-- Each step of the walk keeps what holds before it, and brings the walk on; or it ends the walk. Assumes nothing.
use mathlib.Core.Path.{◌≡◌, refl, sym, ap, ◌∙◌, subst}
use mathlib.Core.Bool.{Bool, true, false, cond, true≢false}
use mathlib.Core.List.{List, [], ◌∷◌, map}
use mathlib.Core.Logic.{inl, inr}
use Prim.Native.Nat.{ℕ, suc, ◌+◌, ◌*◌, ◌/◌, max, ◌≤◌, ◌<◌}
use native.Mathlib.Omega.{arith}
use lib.ListN.{length, get_or, drop, length-set}
use lib.Seq.{get_or-set_same, drop-set-lt}
use Rattle.calls.proofs.Table.{weight, opened}
use Rattle.grammar.specs.Rule.{Rule, call}
use Rattle.schema.specs.Cells.{held_at, stored, HasCell}
use Rattle.schema.proofs.Cells.{view}
use Rattle.schema.specs.Closed.{Closed}
use Rattle.schema.specs.Derivation.{Pair, ◌at◌, Result, success, failure, Stop, missing, gives, stops, calls, act, stopped, result, loop}
use Rattle.schema.specs.Examined.{leaf_reach_of}
use Rattle.schema.specs.Table.{cell, cells, held, reach}
use Rattle.schema.proofs.Closed.{calls_call}
use Rattle.schema.proofs.Cell.{pair_of, PairWithin, cell_below, cell_pair, pair_cell, pair_within}
use Rattle.cells.specs.Packed.{entry}
use Rattle.step.specs.Codes.{open_mark, Settled, Called, first_called, second_called, Given, by_leaf, by_calls, result_of}
use Rattle.finish.specs.Closing.{Trail, nothing_open, outcome_of, named_of}
use Rattle.walk.specs.Walk.{before, WalkReady, WalkEnds, TableEnds, depth_of, StopsAt, SettledCode}
use Rattle.step.specs.Step.{LookedUp, settled_before, leaf_settled, top_of, called_of, StepReady, Seconds, Settles, Returns, Opens, Descends, Stuck, StepEnds, Steps}
use Rattle.cells.specs.declared.Cell.{Cell}
use Rattle.step.specs.declared.State.{State}
use Rattle.std.specs.declared.ops.ControlFlow.TheVariants.{Continue}
use Rattle.step.specs.declared.Walk.{Walk}
use Rattle.step.specs.declared.Walk.TheVariants as walk
use Rattle.step.proofs.Stepped.{looked_held}
use Rattle.walk.proofs.Ended.{stops_here, again_ends, stuck_ends, settle_ends}
use Rattle.finish.proofs.Entry.{entry_parts}
use Rattle.walk.proofs.Still.{room_before, walkable_still}
use Rattle.walk.proofs.Marks.{mark, stands, settled_not}
use Rattle.walk.proofs.Standing.{Stacked, alone, above, Standing, called_still, stacked_still, stacked_above, trail_pairs, at_bottom, deep_enough}
use Rattle.step.proofs.Within.{called_within}
use Rattle.walk.proofs.Through.{Through, begins_through, open_falls, open_through, leaf_through, leaf_falls, settle_falls, settle_through}

-- What the walk has still to do: twice the steps of its cells, and one for a first call.
pub to_do : List ℕ → ℕ → State → ℕ
to_do T N x = 2 * weight (view mark T) N + cond x.second 0 1

to_do_le : (T : List ℕ) (N : ℕ) (x : State) → to_do T N x ≤ 2 * weight (view mark T) N + 1
unfolding to_do
to_do_le T N x = go x.second
  where
    go : (b : Bool) → 2 * weight (view mark T) N + cond b 0 1 ≤ 2 * weight (view mark T) N + 1
    go true = omega arith
    go false = omega arith

to_do_ge : (T : List ℕ) (N : ℕ) (x : State) → 2 * weight (view mark T) N ≤ to_do T N x
unfolding to_do
to_do_ge T N x = omega arith

one_more : (d : ℕ) → d + 1 ≡ suc d
one_more d = omega arith

module _ (rule : ℕ → Rule) (s : List ℕ) (v : ℕ) (closed : Closed v rule) (few : v ≤ 256) (short : length s ≤ 4096) where
  abbrev n : ℕ
  n = length s

  abbrev N : ℕ
  N = cells v (length s)

  -- A result that is held gives the pair its own, after the second call, and with the first's the reach.
  given_second : {T : List ℕ} {k : Bool} (A p : ℕ) {y : Pair} {r : Result} {far : ℕ} → k ≡ true → Called rule s T k (A at p) y → Settled (length s) (held (length s) T y) r
      → ((B C D : ℕ) → rule A ≡ call B C D → far ≡ max (reach (length s) T (B at p)) (reach (length s) T y)) → Given rule s T (A at p) r far
  given_second A p e (first_called h) m f = absurd (true≢false (cc))
  given_second {T = T} A p {r = r} e (second_called {B = B} {C = C} {D = D} h g) m f =
      subst (Given rule s T (A at p) r) (sym (f B C D (calls_call (rule A) s p B C D h))) (by_calls h g m)

  open_unsettled : {c : ℕ} → c ≡ open_mark → (t : Result) → ¬ Settled (length s) c t
  open_unsettled e (success q) m = let h = m.code_is in let l = m.ends in omega arith
  open_unsettled e failure m = let h = m.code_is in omega arith

  module _ {x : Pair} {O U T W : List ℕ} {y : State} (g : Standing rule s v x O U T W y) (room : 2 * N ≤ length O) where
    in_table : (z : Pair) → PairWithin v (length s) z → HasCell T (cell (length s) z)
    in_table z i = let l = cell_below v (length s) z i in let e = g.through.size in omega arith

    called_in : PairWithin v (length s) (called_of y)
    called_in = called_within rule s v closed g.within g.called

    -- ---- The called pair is looked up and has its result.

    pub record Known (r : Result) (T' : List ℕ) : Type 0 where
      pub through : Through rule s v x O T' (cell (length s) (top_of y) ∷ g.stack)
      pub called : Called rule s T' y.second (top_of y) (called_of y)
      pub stacked : Stacked rule s T' W y.depth (cell (length s) (top_of y) ∷ g.stack)
      pub held_is : Settled (length s) (held (length s) T' (called_of y)) r
      pub no_more : weight (view mark T') N ≤ weight (view mark T) N

    pub known : {r : Result} {T' : List ℕ} → LookedUp rule s T (called_of y) r T' → Known r T'
    known (settled_before m) = record { through = g.through; called = g.called; stacked = g.stacked; held_is = m; no_more = omega arith }
    known {r} (leaf_settled {c} {m = far} u e m j) =
        let i = cell (length s) (called_of y) in
        let f = leaf_falls rule s v closed few short g.within g.through room y.called y.target g.called u c r m far e j in
        record {
          through = leaf_through rule s v closed few short g.within g.through room y.called y.target g.called u c r m far e j;
          called = called_still i c far (λ t h. settled_not (length s) (held_at T i) t h u) g.called;
          stacked = stacked_still i c far (λ t h. settled_not (length s) (held_at T i) t h u) g.stacked;
          held_is = looked_held rule s T (called_of y) (in_table (called_of y) called_in) (leaf_settled u e m j);
          no_more = omega arith;
        }

    -- The second call is next.
    pub on_second : {T' W' : List ℕ} {z : State} → Seconds rule s T W T' W' y z → Standing rule s v x O U T' W' z × (to_do T' N z < to_do T N y)
    unfolding to_do
    on_second {T'} {W'} {z} h =
        let k = known h.looked_up in
        let l = k.no_more in
        let e₁ = ap (λ (b : Bool). cond {A = ℕ} b 0 1) h.first_call in
        let e₂ = ap (λ (b : Bool). cond {A = ℕ} b 0 1) h.second_call in (
          record {
            stack = g.stack;
            within = subst (PairWithin v (length s)) (sym h.top_same) g.within;
            called = rw (h.second_call, h.top_same) h.called;
            through = subst (λ (i : ℕ). Through rule s v x O T' (i ∷ g.stack)) (sym (ap (cell (length s)) h.top_same)) k.through;
            stacked = rw (h.depth_same, h.work_same) (subst (λ (i : ℕ). Stacked rule s T' W y.depth (i ∷ g.stack)) (sym (ap (cell (length s)) h.top_same)) k.stacked);
            work_later = ap (drop N) h.work_same ∙ g.work_later;
            work_size = ap length h.work_same ∙ g.work_size;
          },
          omega arith,
        )

    -- ---- The called pair is opened.

    module _ {T' W' : List ℕ} (o : Opens s T W T' W' y) (work_room : N ≤ length U) where
      opened_through : Through rule s v x O T' (cell (length s) (called_of y) ∷ cell (length s) (top_of y) ∷ g.stack)
      opened_through = rw o.table_is (open_through rule s v closed few short g.within g.through room y.called y.target g.called o.new)

      called_cells : {M : List ℕ} → Called rule s M y.second (top_of y) (called_of y)
          → Called rule s M y.second (pair_of (length s) (cell (length s) (top_of y))) (pair_of (length s) (cell (length s) (called_of y)))
      called_cells {M} h =
          subst (λ (u : Pair). Called rule s M y.second u (pair_of (length s) (cell (length s) (called_of y)))) (sym (pair_cell v (length s) (top_of y) g.within))
          (subst (Called rule s M y.second (top_of y)) (sym (pair_cell v (length s) (called_of y) called_in)) h)

      opened_stacked : Stacked rule s T' W' (suc y.depth) (cell (length s) (called_of y) ∷ cell (length s) (top_of y) ∷ g.stack)
      opened_stacked =
          let i = cell (length s) (called_of y) in
          let c = entry y.second (top_of y) in
          let free : (t : Result) → ¬ Settled (length s) (held_at T i) t = λ t h. settled_not (length s) (held_at T i) t h o.new in
          let d = deep_enough g.through g.stacked in
          let z = g.work_size in
          rw (o.table_is, o.work_is) (above y.second
          (get_or-set_same W y.depth c 0 (omega arith) ∙ ap (entry y.second) (sym (pair_cell v (length s) (top_of y) g.within)))
          (called_cells (called_still i open_mark 0 free g.called))
          (stacked_above y.depth c (omega arith) (stacked_still i open_mark 0 free g.stacked)))

      opened_later : drop N W' ≡ drop N U
      opened_later =
          let d = deep_enough g.through g.stacked in
          ap (drop N) o.work_is ∙ drop-set-lt N W y.depth (entry y.second (top_of y)) d ∙ g.work_later

      opened_size : length W' ≡ length U
      opened_size = ap length o.work_is ∙ length-set W y.depth (entry y.second (top_of y)) ∙ g.work_size

      -- Its first call is next,
      pub on_open : {z : State} → Descends rule s y z → Standing rule s v x O U T' W' z × (to_do T' N z < to_do T N y)
      on_open {z} h =
          let f = open_falls rule s v closed few short g.within g.through room y.called y.target g.called o.new in
          let e = ap (λ (M : List ℕ). weight (view mark M) N) o.table_is in
          let a = to_do_le T' N z in
          let b = to_do_ge T N y in (
            record {
              stack = cell (length s) (top_of y) ∷ g.stack;
              within = subst (PairWithin v (length s)) (sym h.top_is) called_in;
              called = rw (h.first_call, h.top_is, h.target_is) (first_called h.acts);
              through =
                  subst (λ (i : ℕ). Through rule s v x O T' (i ∷ cell (length s) (top_of y) ∷ g.stack)) (sym (ap (cell (length s)) h.top_is)) opened_through;
              stacked =
                  rw (h.depth_is ∙ one_more y.depth)
                  (subst (λ (i : ℕ). Stacked rule s T' W' (suc y.depth) (i ∷ cell (length s) (top_of y) ∷ g.stack)) (sym (ap (cell (length s)) h.top_is))
                  opened_stacked);
              work_later = opened_later;
              work_size = opened_size;
            },
            omega arith,
          )

      abbrev opened_pairs : List Pair
      opened_pairs = map (pair_of (length s)) (cell (length s) (called_of y) ∷ cell (length s) (top_of y) ∷ g.stack)

      -- or it has no rule, and the walk ends.
      stuck_trail : (w : PairWithin v (length s) x) → Trail W' x (suc y.depth) opened_pairs
      stuck_trail w = trail_pairs rule s v x w opened_through.inv.trail opened_stacked

      stuck_deep : suc y.depth ≤ N
      stuck_deep = deep_enough g.through g.stacked

      pub on_stuck : PairWithin v (length s) x → (t : Stop) (A p d : ℕ) → Stuck rule s y t (A at p) d
          → (opens : List Pair) × TableEnds rule s v x O T' (stopped t) (A at p) opens × ((ps : List Pair) × (opens ≡ (A at p) ∷ ps)) × Trail W' x d opens × (d ≤ N)
      on_stuck w t A p d h =
          let q = sym h.pair_is in
          let e = sym (h.depth_is ∙ one_more y.depth) in (
            opened_pairs,
            subst (λ (u : Pair). TableEnds rule s v x O T' (stopped t) u opened_pairs) q
                (stuck_ends rule s v closed few short w called_in opened_through t h.acts),
            subst (λ (u : Pair). (ps : List Pair) × (opened_pairs ≡ u ∷ ps)) q (stops_here rule s v closed few short w called_in opened_through),
            subst (λ (k : ℕ). Trail W' x k opened_pairs) e (stuck_trail w),
            subst (λ (k : ℕ). k ≤ N) e stuck_deep,
          )

      pub stuck_walk : PairWithin v (length s) x → (t : Stop) {A p d : ℕ} → Stuck rule s y t (A at p) d → (r : Walk) → outcome_of r ≡ stopped t → named_of r ≡ A at p
          → depth_of r ≡ d → ((opens : List Pair) → (ps : List Pair) × (opens ≡ (A at p) ∷ ps) → StopsAt r opens) → SettledCode (length s) r → WalkEnds rule s v x O T' U W' r
      stuck_walk w t {A} {p} {d} h r e₁ e₂ e₃ stop code =
          let k = on_stuck w t A p d h in
          record {
            opens = k.0;
            table = rw (e₁, e₂) k.1;
            stops_at = stop k.0 k.2;
            settled_code = code;
            trail = rw e₃ k.3;
            deep = rw e₃ k.4;
            work_later = opened_later;
            work_size = opened_size;
          }

    -- ---- The latest open pair has its result.

    module _ {T' W' : List ℕ} {c : ℕ} (h : Settles rule s T W T' W' y c) where
      found : Known h.r h.T₁
      found = known h.looked_up

      given : Given rule s h.T₁ (top_of y) h.r h.m
      given = given_second y.variable y.position h.second_call found.called found.held_is h.reach_is

      settled_through : Through rule s v x O T' g.stack
      settled_through = rw h.table_is (settle_through rule s v closed few short g.within found.through room c h.r h.code_is h.m given)

      top_open : (t : Result) → ¬ Settled (length s) (held_at h.T₁ (cell (length s) (top_of y))) t
      top_open =
          let i = cell (length s) (top_of y) in
          open_unsettled (stands (length s) (held_at h.T₁ i) opened (found.through.fits i (cell_below v (length s) (top_of y) g.within))
          (found.through.inv.on_open i (inl refl)))

      settled_falls : (z : State) → to_do T' N z < to_do T N y
      settled_falls z =
          let f = settle_falls rule s v closed few short g.within found.through room c h.r h.code_is h.m given in
          let e = ap (λ (M : List ℕ). weight (view mark M) N) h.table_is in
          let l = found.no_more in
          let a = to_do_le T' N z in
          let b = to_do_ge T N y in
          omega arith

      -- Its caller is next.
      pub on_settle : {z : State} → Returns W y z → Standing rule s v x O U T' W' z × (to_do T' N z < to_do T N y)
      on_settle {z} b = (
        under z.depth (cell (length s) (top_of y)) refl refl
            (subst (λ (d : ℕ). Stacked rule s h.T₁ W d (cell (length s) (top_of y) ∷ g.stack)) (b.depth_is ∙ one_more z.depth) found.stacked) settled_through,
        settled_falls z,
      )
        where
          under : (d j : ℕ) {l : List ℕ} → d ≡ z.depth → j ≡ cell (length s) (top_of y) → Stacked rule s h.T₁ W (suc d) (j ∷ l) → Through rule s v x O T' l
              → Standing rule s v x O U T' W' z
          under d j d-is j-is (above {i = i} {l = l} k e called rest) t =
              let w = pair_within v (length s) i (t.inv.below i (inl refl)) in
              let parts = entry_parts k _ _ (length s) short w.position (ap (λ (m : ℕ). get_or W m 0) (sym d-is) ∙ e) in
              let top : top_of z ≡ pair_of (length s) i =
              ap (λ (A : ℕ). A at z.position) (b.variable_is ∙ parts.variable) ∙ ap (λ (p : ℕ). (i / (length s + 1) + 1) at p) (b.position_is ∙ parts.position) in
              let cell_is : cell (length s) (top_of z) ≡ i = ap (cell (length s)) top ∙ cell_pair (length s) i in
              let under_is : pair_of (length s) j ≡ called_of z =
              ap (pair_of (length s)) j-is ∙ pair_cell v (length s) (top_of y) g.within ∙ sym b.called_is in
              let still = called_still (cell (length s) (top_of y)) c h.m top_open called in
              record {
                stack = l;
                within = subst (PairWithin v (length s)) (sym top) w;
                called =
                    rw (b.second_is ∙ parts.call, h.table_is)
                    (subst (λ (u : Pair). Called rule s (stored h.T₁ (cell (length s) (top_of y)) c h.m) k u (called_of z)) (sym top)
                    (subst (Called rule s (stored h.T₁ (cell (length s) (top_of y)) c h.m) k (pair_of (length s) i)) under_is still));
                through = subst (λ (u : ℕ). Through rule s v x O T' (u ∷ l)) (sym cell_is) t;
                stacked =
                    rw (h.table_is, h.work_same, ← d-is)
                    (subst (λ (u : ℕ). Stacked rule s (stored h.T₁ (cell (length s) (top_of y)) c h.m) W d (u ∷ l)) (sym cell_is)
                    (stacked_still (cell (length s) (top_of y)) c h.m top_open rest));
                work_later = ap (drop N) h.work_same ∙ g.work_later;
                work_size = ap length h.work_same ∙ g.work_size;
              }

      -- It is the asked pair: the walk ends.
      pub on_settled : PairWithin v (length s) x → y.depth ≡ 0 → TableEnds rule s v x O T' (result (result_of c)) (0 at 0) []
      on_settled w e =
          let root = at_bottom found.through.inv.trail (subst (λ (d : ℕ). Stacked rule s h.T₁ W d (cell (length s) (top_of y) ∷ g.stack)) e found.stacked) in
          rw h.table_is (settle_ends rule s v closed few short w g.within found.through room c h.r h.code_is h.m given root)

    -- ---- What a step leaves behind.

    -- The walk goes on,
    pub steps_on : N ≤ length U → {T' W' : List ℕ} (z : State) → Steps rule s T W T' W' y (Continue z) → Standing rule s v x O U T' W' z × (to_do T' N z < to_do T N y)
    steps_on work_room z (inl h) = on_second h
    steps_on work_room z (inr (inl h)) = on_settle h.1 h.2
    steps_on work_room z (inr (inr h)) = on_open h.0 work_room h.1

    -- or it ends.
    module _ (work_room : N ≤ length U) (w : PairWithin v (length s) x) where
      pub steps_end : {T' W' : List ℕ} (r : Walk) → StepEnds rule s T W T' W' y r → WalkEnds rule s v x O T' U W' r
      steps_end {T'} {W'} (walk.Settled c) h = record {
        opens = [];
        table = on_settled h.0 w h.1;
        stops_at = refl;
        settled_code = (h.0.r, h.0.code_is);
        trail = nothing_open;
        deep = omega arith;
        work_later = ap (drop N) h.0.work_same ∙ g.work_later;
        work_size = ap length h.0.work_same ∙ g.work_size;
      }
      steps_end {T'} {W'} (walk.Loop A p B q d) h =
          let l = deep_enough g.through g.stacked in
          let e = h.depth_is in
          let opens = map (pair_of (length s)) (cell (length s) (top_of y) ∷ g.stack) in
          record {
            opens = opens;
            table =
                rw h.table_same (subst (λ (u : Pair). TableEnds rule s v x O T loop u opens) (sym h.pair_is)
                (again_ends rule s v closed few short w g.within g.through y.called y.target g.called h.opened));
            stops_at = subst (λ (u : Pair). (ps : List Pair) × (opens ≡ u ∷ ps)) (sym h.caller_is) (stops_here rule s v closed few short w g.within g.through);
            settled_code = tt;
            trail = rw (h.work_same, e) (trail_pairs rule s v x w g.through.inv.trail g.stacked);
            deep = omega arith;
            work_later = ap (drop N) h.work_same ∙ g.work_later;
            work_size = ap length h.work_same ∙ g.work_size;
          }
      steps_end {T'} {W'} (walk.Missing A p d) h = stuck_walk h.0 work_room w missing h.1 (walk.Missing A p d) refl refl refl (λ opens u. u) tt

-- ---- The walk's loop.

module _ {rule : ℕ → Rule} {s : List ℕ} {v A p : ℕ} {T₀ W₀ : List ℕ} (r : WalkReady rule s v A p T₀ W₀) where
  abbrev O : List ℕ
  O = before (length s) (A at p) T₀

  closed : Closed v rule
  closed = r.walkable.closed

  -- The beginning: the asked pair is open, and no other, and its first call is next.
  pub stands_first : (b C D : ℕ) → act rule s (A at p) ≡ calls b C D → (x : State) → top_of x ≡ A at p → called_of x ≡ b at p → x.second ≡ false → x.depth ≡ 0
      → Standing rule s v (A at p) O W₀ T₀ W₀ x
  stands_first b C D e x t c k d = record {
    stack = [];
    within = subst (PairWithin v (length s)) (sym t) r.within;
    called = rw (k, t, c) (first_called e);
    through =
        subst (λ (i : ℕ). Through rule s v (A at p) O T₀ (i ∷ [])) (sym (ap (cell (length s)) t))
        (begins_through rule s v closed r.walkable.few r.walkable.short A p T₀ W₀ r);
    stacked = rw d alone;
    work_later = refl;
    work_size = refl;
  }

  module _ {T W : List ℕ} {x : State} (g : Standing rule s v (A at p) O W₀ T W x) where
    -- What a step asks.
    pub ready_still : StepReady rule s v T W x
    ready_still = record {
      walkable = walkable_still r g.through;
      within = g.within;
      called = g.called;
      deep = deep_enough g.through g.stacked;
      work_room = let m = r.work_room in let z = g.work_size in omega arith;
    }

    pub goes_on : {T' W' : List ℕ} (y : State) → Steps rule s T W T' W' x (Continue y)
        → Standing rule s v (A at p) O W₀ T' W' y × (to_do T' (cells v (length s)) y < to_do T (cells v (length s)) x)
    goes_on y h = steps_on rule s v closed r.walkable.few r.walkable.short g (room_before r) r.work_room y h

    pub ends : {T' W' : List ℕ} (z : Walk) → StepEnds rule s T W T' W' x z → WalkEnds rule s v (A at p) O T' W₀ W' z
    ends z h = steps_end rule s v closed r.walkable.few r.walkable.short g (room_before r) r.work_room r.within z h

  -- The asked pair is a leaf,
  pub leaf_ends : (c : Cell) (t : Result) → Settled (length s) c.0 t → act rule s (A at p) ≡ gives t → c.1 ≡ leaf_reach_of rule (A at p)
      → WalkEnds rule s v (A at p) O (stored T₀ (cell (length s) (A at p)) c.0 c.1) W₀ W₀ (walk.Settled c.0)
  leaf_ends c t m e f = record {
    opens = [];
    table =
        settle_ends rule s v closed r.walkable.few r.walkable.short r.within r.within
        (begins_through rule s v closed r.walkable.few r.walkable.short A p T₀ W₀ r) (room_before r) c.0 t m c.1 (subst (Given rule s T₀ (A at p) t) (sym f) (by_leaf e)) refl;
    stops_at = refl;
    settled_code = (t, m);
    trail = nothing_open;
    deep = omega arith;
    work_later = refl;
    work_size = refl;
  }

  -- or has no rule.
  pub stuck_first : (t : Stop) → act rule s (A at p) ≡ stops t → (z : Walk) → outcome_of z ≡ stopped t → named_of z ≡ A at p → depth_of z ≡ 0
      → ((opens : List Pair) → (ps : List Pair) × (opens ≡ (A at p) ∷ ps) → StopsAt z opens) → SettledCode (length s) z → WalkEnds rule s v (A at p) O T₀ W₀ W₀ z
  stuck_first t e z e₁ e₂ e₃ stop code =
      let g = begins_through rule s v closed r.walkable.few r.walkable.short A p T₀ W₀ r in
      let opens = map (pair_of (length s)) (cell (length s) (A at p) ∷ []) in
      record {
        opens = opens;
        table = rw (e₁, e₂) (stuck_ends rule s v closed r.walkable.few r.walkable.short r.within r.within g t e);
        stops_at = stop opens (stops_here rule s v closed r.walkable.few r.walkable.short r.within r.within g);
        settled_code = code;
        trail = rw e₃ (trail_pairs rule s v (A at p) r.within {T = T₀} g.inv.trail alone);
        deep = rw e₃ (omega arith);
        work_later = refl;
        work_size = refl;
      }
