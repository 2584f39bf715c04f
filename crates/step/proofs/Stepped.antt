-- What a step asks holds, and what it does is one of the steps. Assumes nothing.
use mathlib.Core.Path.{◌≡◌, refl, sym, ap, ◌∙◌, subst}
use mathlib.Core.Bool.{Bool, true, false, true≢false}
use mathlib.Core.List.{List}
use mathlib.Core.Logic.{inl, inr}
use Prim.Native.Nat.{ℕ, max, ◌≤◌, ◌<◌}
use native.Mathlib.Omega.{arith}
use lib.ListN.{length}
use Rattle.grammar.specs.Rule.{Rule, call}
use Rattle.schema.specs.Cells.{stored, HasCell}
use Rattle.schema.proofs.Cells.{stored_there}
use Rattle.schema.specs.Derivation.{Pair, ◌at◌, Result, calls, act, second}
use Rattle.schema.specs.Table.{Within, cell, held, reach}
use Rattle.schema.proofs.Closed.{calls_call}
use Rattle.schema.proofs.Cell.{PairWithin, cell_below}
use Rattle.step.specs.Codes.{Code, Settled, Called, first_called, second_called, result_of}
use Rattle.step.specs.Step.{LookedUp, settled_before, leaf_settled, top_of, called_of, StepReady, Settles, GoesBack, ToSecond, SettleReady, ResumeReady, Joins, Resumes, Steps}
use Rattle.cells.specs.declared.Cell.{Cell}
use Rattle.step.specs.declared.State.{State}
use Rattle.std.specs.declared.ops.ControlFlow.{ControlFlow}
use Rattle.std.specs.declared.ops.ControlFlow.TheVariants.{Continue, Break}
use Rattle.step.specs.declared.Walk.{Walk}
use Rattle.step.specs.declared.Walk.TheVariants as walk
use Rattle.step.proofs.Looking.{result_is}
use Rattle.step.proofs.Within.{called_within}

-- The bounds that a step relies on.
pub record Bounds (s : List ℕ) (v : ℕ) (T W : List ℕ) (x : State) : Type 0 where
  pub low : 1 ≤ x.variable
  pub high : x.variable ≤ 256
  pub position_small : x.position ≤ 4096
  pub top_cell : HasCell T (cell (length s) (top_of x))
  pub called_in : Within v (length s) x.called x.target
  pub called_high : x.called ≤ 256
  pub called_cell : HasCell T (cell (length s) (called_of x))
  pub deep : x.depth < length W

pub step_bounds : {rule : ℕ → Rule} {s : List ℕ} {v : ℕ} {T W : List ℕ} {x : State} → StepReady rule s v T W x → Bounds s v T W x
step_bounds {rule} {s} {v} {T} {W} {x} r =
    let w = r.walkable in
    let i = r.within in
    let j : Within v (length s) x.called x.target = called_within rule s v w.closed i r.called in
    let a = cell_below v (length s) (top_of x) i in
    let b = cell_below v (length s) (called_of x) j in
    let few = w.few in
    let short = w.short in
    let room = w.room in
    let d = r.deep in
    let m = r.work_room in
    let h₁ = i.variable.1 in
    let h₂ = j.variable.1 in
    let p = i.position in
    record { low = i.variable.0; high = omega arith; position_small = omega arith; top_cell = omega arith; called_in = j; called_high = omega arith; called_cell = omega arith; deep = omega arith }

-- A pair that calls has a first call.
called_calls : {rule : ℕ → Rule} {s T : List ℕ} {k : Bool} {A p : ℕ} {y : Pair} → Called rule s T k (A at p) y
    → (B : ℕ) × (C : ℕ) × (D : ℕ) × (act rule s (A at p) ≡ calls B C D)
called_calls (first_called {B = B} {C = C} {D = D} e) = (B, C, D, e)
called_calls (second_called {B = B} {C = C} {D = D} e m) = (B, C, D, e)

-- What settling the latest open pair asks, over a table of the same length.
settle_ready : {rule : ℕ → Rule} {s : List ℕ} {v : ℕ} {T W : List ℕ} {x : State} → StepReady rule s v T W x → (T₁ : List ℕ) → length T₁ ≡ length T
    → SettleReady rule (length s) T₁ W x
settle_ready {rule} {s} {v} {T} {W} {x} r T₁ e =
    let b = step_bounds r in
    let t = b.top_cell in
    let d = b.deep in
    let c = called_calls r.called in
    let i = calls_call (rule x.variable) s x.position c.0 c.1 c.2 c.3 in
    let f = (r.walkable.closed x.variable c.0 c.1 c.2 i).0 in
    let f₀ = f.0 in
    let f₁ = f.1 in
    let w : PairWithin v (length s) (c.0 at x.position) = record { variable = f; position = r.within.position } in
    let l = cell_below v (length s) (c.0 at x.position) w in
    let few = r.walkable.few in
    let room = r.walkable.room in
    record {
      low = b.low;
      high = b.high;
      short = r.walkable.short;
      position = r.within.position;
      top_cell = omega arith;
      B = c.0;
      C = c.1;
      D = c.2;
      rule_is = i;
      first_low = f.0;
      first_high = omega arith;
      first_cell = omega arith;
      deep = omega arith;
    }

-- What going on with a result asks.
pub resume_ready : {rule : ℕ → Rule} {s : List ℕ} {v : ℕ} {T W : List ℕ} {x : State} → StepReady rule s v T W x → (T₁ : List ℕ) → length T₁ ≡ length T → (c : ℕ) → Code c
    → ResumeReady rule (length s) T₁ W x c
resume_ready r T₁ e c code = record { settle = settle_ready r T₁ e; code_is = code }

-- ---- What a step does, from what its parts do.

module _ (rule : ℕ → Rule) (s : List ℕ) where
  -- The result of a pair that was looked up is held.
  pub looked_held : (T : List ℕ) (y : Pair) {T' : List ℕ} {r : Result} → HasCell T (cell (length s) y) → LookedUp rule s T y r T' → Settled (length s) (held (length s) T' y) r
  looked_held T y l (settled_before m) = m
  looked_held T y {r = r} l (leaf_settled {c} {m = k} u e m f) =
      subst (λ (j : ℕ). Settled (length s) j r) (sym (stored_there T (cell (length s) y) c k l)) m

  second_next : {T T' : List ℕ} {k : Bool} (A p : ℕ) {y : Pair} (z : Pair) (c : ℕ) (r : Result) → k ≡ false → Called rule s T k (A at p) y
      → Settled (length s) (held (length s) T' y) r → Settled (length s) c r → ((B C D : ℕ) → rule A ≡ call B C D → z ≡ second C D p (result_of c))
      → Called rule s T' true (A at p) z
  second_next {T' = T'} A p z c r k (first_called {B = B} {C = C} {D = D} e) h m f =
      subst (Called rule s T' true (A at p)) (sym (f B C D (calls_call (rule A) s p B C D e) ∙ ap (second C D p) (result_is (length s) c r m))) (second_called e h)
  second_next A p z c r k (second_called e g) h m f = absurd (true≢false (cc))

  -- Going on with a result is a step.
  module _ (T W : List ℕ) (x : State) (c : Cell) {r : Result} (code : Settled (length s) c.0 r) {T₁ : List ℕ} (found : LookedUp rule s T (called_of x) r T₁)
      (far : c.1 ≡ reach (length s) T₁ (called_of x)) (called : Called rule s T x.second (top_of x) (called_of x)) (l : HasCell T (cell (length s) (called_of x)))
      {T' : List ℕ} where
    steps_second : x.second ≡ false → T' ≡ T₁ → (y : State) → ToSecond rule x c y → Steps rule s T W T' W x (Continue y)
    steps_second e t y f = inl (record {
      first_call = e;
      r = r;
      looked_up = rw t found;
      called = rw t (second_next x.variable x.position (called_of y) c.0 r e called (looked_held T (called_of x) l found) code f.0);
      top_same = f.1;
      second_call = f.2;
      depth_same = f.3;
      work_same = refl;
    })

    steps_settle : x.second ≡ true → (m : ℕ) → T' ≡ stored T₁ (cell (length s) (top_of x)) c.0 m → Joins rule (length s) T₁ x c m → (z : ControlFlow Walk State) → GoesBack W x c z
        → Steps rule s T W T' W x z
    steps_settle e m t j z h = go z h
      where
        settles : Settles rule s T W T' W x c.0
        settles = record {
          second_call = e;
          r = r;
          code_is = code;
          T₁ = T₁;
          looked_up = found;
          m = m;
          reach_is = λ B C D i. j B C D i ∙ ap (max (reach (length s) T₁ (B at x.position))) far;
          table_is = t;
          work_same = refl;
        }

        go : (z : ControlFlow Walk State) → GoesBack W x c z → Steps rule s T W T' W x z
        go (Continue y) h = inr (inl (c.0, settles, h))
        go (Break (walk.Settled d)) h = (subst (Settles rule s T W T' W x) (sym h.0) settles, h.1)
        go (Break (walk.Loop A p B q d)) h = absurd h
        go (Break (walk.Missing A p d)) h = absurd h

    pub steps_resume : (z : ControlFlow Walk State) → Resumes rule (length s) T₁ W T' x c z → Steps rule s T W T' W x z
    steps_resume z (inl h) = steps_settle h.0 h.1.0 h.1.1 h.1.2 z h.2
    steps_resume z (inr h) = subst (Steps rule s T W T' W x) (sym h.2.1) (steps_second h.0 h.1 h.2.0 h.2.2)
