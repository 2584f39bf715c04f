-- Asking over the table as it is: the walk, the closing, the count of what is new. Assumes nothing.
use mathlib.Core.List.{List}
use mathlib.Core.Logic.{inl, inr, ◌≢◌}
use mathlib.Core.Path.{◌≡◌, refl, sym, ap, ◌∙◌, subst}
use Prim.Native.Nat.{ℕ, ◌+◌, ◌-◌, ◌*◌, ◌≤◌, ◌<◌}
use native.Mathlib.Decide.{ℕ_discrete}
use native.Mathlib.Omega.{arith}
use lib.ListN.{length, drop}
use Rattle.grammar.specs.Rule.{Rule}
use Rattle.schema.specs.Cells.{held_at, reach_at, stored, HasCell}
use Rattle.schema.proofs.Cells.{stored_there, stored_elsewhere, reach_elsewhere, stored_later, stored_length}
use Rattle.schema.specs.Derivation.{Pair, ◌at◌, Result, second, result, Has, success, failure}
use Rattle.schema.specs.Examined.{Examines, Reaches}
use Rattle.schema.specs.Reached.{Reached, itself, first_of, of_second}
use Rattle.schema.specs.Table.{Ends, Within, cell, cells, decided, held, reach, contents, Holds, Table, code}
use Rattle.schema.proofs.Answer.{reached_cell}
use Rattle.schema.proofs.Cell.{PairWithin, cell_below}
use Rattle.schema.proofs.Codes.{code_full}
use Rattle.schema.proofs.Laws.{has_one}
use Rattle.finish.specs.Reply.{reply, reply_of}
use Rattle.finish.specs.Finish.{FinishReady, Finishes}
use Rattle.walk.specs.Over.{OverReady, Over}
use Rattle.step.specs.Codes.{open_mark, Unsettled, Settled, Fits, fresh}
use Rattle.finish.specs.Closing.{outcome_of, named_of}
use Rattle.walk.specs.Walk.{Counts, before, RightTable, WalkReady, WalkEnds, HeldAt, TableMeans, SettledCode}
use Rattle.finish.specs.declared.Answer.{Answer}
use Rattle.step.specs.declared.Walk.{Walk}
use Rattle.step.specs.declared.Walk.TheVariants as walk
use Rattle.walk.proofs.Decided.{decided_stored, decided_most}
use Rattle.step.proofs.Looking.{result_is}
use Rattle.walk.proofs.Finished.{close_ready, no_open, closes_counts}
use Rattle.walk.proofs.Marks.{settled_not, settled_full, settled_closed, code_of}
use Rattle.walk.proofs.Through.{reaching_pair}
use Rattle.cells.proofs.Numbers.{cells_small}

-- The code of a result, and of how a walk ended, is one of a cell.
result_small : (n : ℕ) (r : Result) → Ends n r → code (result r) ≤ 5 + n
result_small n (success q) e = omega arith
result_small n failure e = omega arith

ended_small : (n : ℕ) (end : Walk) → SettledCode n end → code (outcome_of end) ≤ 5 + n
ended_small n (walk.Settled c) s = rw (result_is n c s.0 s.1) (result_small n s.0 s.1.ends)
ended_small n (walk.Loop A p B q d) s = omega arith
ended_small n (walk.Missing A p d) s = omega arith

-- The asked cell is in the table.
pub over_in : {rule : ℕ → Rule} {s : List ℕ} {v A p : ℕ} {T W : List ℕ} → OverReady rule s v A p T W → HasCell T (cell (length s) (A at p))
over_in {s = s} {v = v} {A = A} {p = p} r = let l = cell_below v (length s) (A at p) r.within in let m = r.room in omega arith

-- Opening it decides it, where it is new.
opened_counts : {rule : ℕ → Rule} {s : List ℕ} {v A p : ℕ} {T W : List ℕ} → OverReady rule s v A p T W
    → Counts (cells v (length s)) T (stored T (cell (length s) (A at p)) open_mark 0) (fresh (held (length s) T (A at p)))
opened_counts {s = s} {v = v} {A = A} {p = p} {T = T} r =
    decided_stored T (cells v (length s)) (cell (length s) (A at p)) open_mark 0 (cell_below v (length s) (A at p) r.within) (over_in r) (λ z. omega arith)

-- ---- The asked pair holds no result: it is opened and walked.

module _ {rule : ℕ → Rule} {s : List ℕ} {v A p : ℕ} {T W : List ℕ} (r : OverReady rule s v A p T W) (free : Unsettled (held (length s) T (A at p))) where
  abbrev n : ℕ
  n = length s

  abbrev N : ℕ
  N = cells v (length s)

  abbrev x : ℕ
  x = cell (length s) (A at p)

  x_below : x < N
  x_below = cell_below v (length s) (A at p) r.within

  x_in : HasCell T x
  x_in = over_in r

  abbrev opened_table : List ℕ
  opened_table = stored T x open_mark 0

  abbrev O : List ℕ
  O = before (length s) (A at p) opened_table

  -- The table before the asked pair was opened: its cell is blank, the others are as they were.
  start_asked : held_at O x ≡ 0
  start_asked = stored_there opened_table x 0 0 (let e = stored_length T x open_mark 0 in let l = x_in in omega arith)

  start_other : (i : ℕ) → i ≢ x → held_at O i ≡ held_at T i
  start_other i d = stored_elsewhere opened_table x i 0 0 d ∙ stored_elsewhere T x i open_mark 0 d

  start_reach : (i : ℕ) → i ≢ x → reach_at O i ≡ reach_at T i
  start_reach i d = reach_elsewhere opened_table x i 0 0 d ∙ reach_elsewhere T x i open_mark 0 d

  start_later : drop (2 * N) O ≡ drop (2 * N) T
  start_later = stored_later N opened_table x 0 0 x_below ∙ stored_later N T x open_mark 0 x_below

  start_size : length O ≡ length T
  start_size = stored_length opened_table x 0 0 ∙ stored_length T x open_mark 0

  start_room : 2 * N ≤ length O
  start_room = let e = start_size in let m = r.room in omega arith

  opened_fits : (i : ℕ) → i < N → Fits (length s) (held_at opened_table i)
  opened_fits i l = elim (ℕ_discrete i x) [
    | yes e ↦ inr (ap (λ (j : ℕ). held_at opened_table j) e ∙ stored_there T x open_mark 0 x_in)
    | no d ↦ inl (subst (λ (c : ℕ). c ≤ 5 + length s) (sym (stored_elsewhere T x i open_mark 0 d)) (r.in_range i l))
  ]

  start_open : (i : ℕ) → i < N → held_at O i ≢ open_mark
  start_open i l = elim (ℕ_discrete i x) [
    | yes e ↦ λ z. let f : held_at O i ≡ 0 = ap (λ (j : ℕ). held_at O j) e ∙ start_asked in omega arith
    | no d ↦ λ z. let f = start_other i d in let g = r.in_range i l in let h = r.short in omega arith
  ]

  pub over_walk : WalkReady rule s v A p opened_table W
  over_walk =
      let e = stored_length T x open_mark 0 in
      let m = r.room in
      record {
        walkable = record { few = r.few; short = r.short; closed = r.closed; room = omega arith; fits = opened_fits };
        within = r.within;
        opened = stored_there T x open_mark 0 x_in;
        no_open = start_open;
        work_room = r.work_room;
      }

  -- A right table stays one, where a cell without a result is blanked.
  right_start : RightTable rule s v T → RightTable rule s v O
  right_start k = record {
    no_open = start_open;
    right = λ B q t w m. k.right B q t w (was (B at q) t m);
    whole = λ B C D E q t w m e.
        let h = k.whole B C D E q t w (was (B at q) t m) e in
        (h.0, h.1, still (C at q) h.0 h.2, still (second D E q h.0) h.1 h.3);
    reaching = λ B q t w m. elim (ℕ_discrete (cell (length s) (B at q)) x) [
      | yes e ↦ absurd (settled_full t m (ap (λ (j : ℕ). held_at O j) e ∙ start_asked))
      | no d ↦ subst (Examines rule s (B at q) t) (sym (start_reach (cell (length s) (B at q)) d)) (k.reaching B q t w (was (B at q) t m))
    ];
  }
    where
      was : (y : Pair) (t : Result) → Settled (length s) (held (length s) O y) t → Settled (length s) (held (length s) T y) t
      was y t m = elim (ℕ_discrete (cell (length s) y) x) [
        | yes e ↦ absurd (settled_full t m (ap (λ (j : ℕ). held_at O j) e ∙ start_asked))
        | no d ↦ subst (λ (c : ℕ). Settled (length s) c t) (start_other (cell (length s) y) d) m
      ]

      still : (y : Pair) (t : Result) → Settled (length s) (held (length s) T y) t → Settled (length s) (held (length s) O y) t
      still y t m = elim (ℕ_discrete (cell (length s) y) x) [
        | yes e ↦ absurd (settled_not (length s) (held (length s) T (A at p)) t (subst (λ (j : ℕ). Settled (length s) (held_at T j) t) e m) free)
        | no d ↦ subst (λ (c : ℕ). Settled (length s) c t) (sym (start_other (cell (length s) y) d)) m
      ]

  module _ {T₂ W₁ : List ℕ} where
    -- The closing may begin.
    pub over_finish : (end : Walk) → WalkEnds rule s v (A at p) O T₂ W W₁ end → FinishReady (length s) v T₂ W₁ end
    over_finish (walk.Settled c) h =
        let m = start_room in
        let z = h.table.size in
        let k = h.settled_code in
        record { few = r.few; short = r.short; room = omega arith; code_is = code_of (length s) c k.0 k.1; no_open = no_open h.table h.stops_at }
    over_finish (walk.Loop a e B q d) h = close_ready h B q 2 r.few r.short (λ z. omega arith) start_room r.work_room h.stops_at
    over_finish (walk.Missing B q d) h = close_ready h B q 3 r.few r.short (λ z. omega arith) start_room r.work_room h.stops_at

    module _ {T₃ : List ℕ} {end : Walk} {count : ℕ} (a : Answer) (h : WalkEnds rule s v (A at p) O T₂ W W₁ end) (f : Finishes (length s) v end count T₂ T₃ a) where
      after_size : length T₃ ≡ length T
      after_size = f.closes.size ∙ h.table.size ∙ start_size

      inside : (y : Pair) → Reached rule s (A at p) y → PairWithin v (length s) y
      inside y k = (reached_cell rule s v r.closed (A at p) r.within k).0

      -- An open cell is closed with the reach of an outcome that is no result.
      closed_reach : (y : Pair) → PairWithin v (length s) y → held (length s) T₂ y ≡ open_mark → Reaches rule s y (outcome_of end) (reach (length s) T₃ y)
      closed_reach y w o = go end h (f.closes.opened (cell (length s) y) (cell_below v (length s) y w) o).1
        where
          go : (last : Walk) → WalkEnds rule s v (A at p) O T₂ W W₁ last → reach (length s) T₃ y ≡ 0 → Reaches rule s y (outcome_of last) (reach (length s) T₃ y)
          go (walk.Settled c) k e = absurd (no_open k.table k.stops_at (cell (length s) y) (cell_below v (length s) y w) o)
          go (walk.Loop a q B u d) k e = e
          go (walk.Missing B q d) k e = e

      module _ (means : TableMeans rule s v (A at p) O T₂ (outcome_of end) (named_of end)) where
        holds_after : (y : Pair) → Reached rule s (A at p) y → Holds rule s T₃ y
        holds_after y k = go (means.reached y k)
          where
            go : HeldAt rule s T₂ (outcome_of end) y → Holds rule s T₃ y
            go (inl g) =
                let c = f.closes.others (cell (length s) y) (settled_closed g.0 r.short g.2) in
                (result g.0, g.1, c.0 ∙ g.2.code_is, subst (Examines rule s y g.0) (sym c.1) g.3)
            go (inr g) =
                (outcome_of end, g.0, (f.closes.opened (cell (length s) y) (cell_below v (length s) y (inside y k)) g.1).0, closed_reach y (inside y k) g.1)

        -- Where the walk changed nothing of a cell, nothing is changed.
        unchanged : (B q : ℕ) → Within v (length s) B q → held (length s) T₂ (B at q) ≡ held (length s) O (B at q)
            → (held (length s) T₃ (B at q) ≡ held (length s) T (B at q))
            × (reach (length s) T₂ (B at q) ≡ reach (length s) O (B at q) → reach (length s) T₃ (B at q) ≡ reach (length s) T (B at q))
        unchanged B q w e = elim (ℕ_discrete (cell (length s) (B at q)) x) [
          | yes z ↦ absurd (h.table.asked (ap (λ (j : ℕ). held_at T₂ j) (sym z) ∙ e ∙ ap (λ (j : ℕ). held_at O j) z ∙ start_asked))
          | no z ↦
              let i = cell (length s) (B at q) in
              let c = f.closes.others i (λ o. start_open i (cell_below v (length s) (B at q) w) (sym e ∙ o)) in
              (c.0 ∙ e ∙ start_other i z, λ m. c.1 ∙ m ∙ start_reach i z)
        ]

        others_after : (B q : ℕ) → Within v (length s) B q → held (length s) T₃ (B at q) ≢ held (length s) T (B at q) → Reached rule s (A at p) (B at q)
        others_after B q w d = means.others B q w (λ e. d (unchanged B q w e).0)

        others_reach_after : (B q : ℕ) → Within v (length s) B q → reach (length s) T₃ (B at q) ≢ reach (length s) T (B at q) → Reached rule s (A at p) (B at q)
        others_reach_after B q w d = elim (ℕ_discrete (held (length s) T₂ (B at q)) (held (length s) O (B at q))) [
          | yes e ↦ means.others_reach B q w (λ m. d ((unchanged B q w e).1 m))
          | no e ↦ means.others B q w e
        ]

        leaves_after : Table rule s v (A at p) (contents (length s) T) T T₃
        leaves_after = record { holds = holds_after; others = others_after; others_reach = others_reach_after; later = f.closes.later ∙ h.table.later ∙ start_later; size = after_size }

      -- What is answered.
      pub over_asked : (w : ℕ) → Counts (cells v (length s)) (stored T (cell (length s) (A at p)) open_mark 0) T₂ w → count ≡ fresh (held (length s) T (A at p)) + w
          → Over rule v s (A at p) T T₃ W W₁ (reply_of a)
      over_asked w c e = subst (Over rule v s (A at p) T T₃ W W₁) (sym f.says) (record {
        later = f.closes.later ∙ h.table.later ∙ start_later;
        size = after_size;
        beyond = h.work_later;
        work_size = h.work_size;
        counts = counted;
        small = ended_small (length s) end h.settled_code;
        from_right = λ k.
            let g = h.table.means (right_start k) in
            record {
              outcome = outcome_of end;
              named = named_of end;
              has = g.has;
              names = g.names;
              says = ap (reply (outcome_of end) (named_of end)) newly_decided;
              leaves = leaves_after g;
            };
      })
        where
          counted : decided N T₃ ≡ decided N T + count
          counted =
              let i = opened_counts r in
              let j = closes_counts T₂ T₃ (code_full (outcome_of end)) f.closes in
              omega arith

          newly_decided : count ≡ decided N T₃ - decided N T
          newly_decided = let k = counted in omega arith

-- The same, from the table that the store leaves.
module _ {rule : ℕ → Rule} {s : List ℕ} {v A p : ℕ} {T W : List ℕ} (r : OverReady rule s v A p T W) (free : Unsettled (held (length s) T (A at p))) {T₁ : List ℕ}
    (e : T₁ ≡ stored T (cell (length s) (A at p)) open_mark 0) where
  pub over_may_walk : WalkReady rule s v A p T₁ W
  over_may_walk = rw e (over_walk r free)

  module _ {T₂ W₁ : List ℕ} where
    at_start : (last : Walk) → WalkEnds rule s v (A at p) (before (length s) (A at p) T₁) T₂ W W₁ last
        → WalkEnds rule s v (A at p) (before (length s) (A at p) (stored T (cell (length s) (A at p)) open_mark 0)) T₂ W W₁ last
    at_start last h = subst (λ (U : List ℕ). WalkEnds rule s v (A at p) (before (length s) (A at p) U) T₂ W W₁ last) e h

    pub over_may_finish : (last : Walk) → WalkEnds rule s v (A at p) (before (length s) (A at p) T₁) T₂ W W₁ last → FinishReady (length s) v T₂ W₁ last
    over_may_finish last h = over_finish r free last (at_start last h)

  module _ (T₂ : List ℕ) (w m : ℕ) (c : Counts (cells v (length s)) T₁ T₂ w) (q : m ≡ fresh (held (length s) T (A at p))) where
    counts_start : Counts (cells v (length s)) (stored T (cell (length s) (A at p)) open_mark 0) T₂ w
    counts_start = subst (λ (U : List ℕ). Counts (cells v (length s)) U T₂ w) e c

    -- The count fits.
    pub over_small : m + w ≤ 1048832
    over_small =
        let a = decided_most T₂ (cells v (length s)) in
        let b = counts_start in
        let i = opened_counts r in
        let k = cells_small v (length s) r.few r.short in
        omega arith

    pub over_answer : {T₃ W₁ : List ℕ} {last : Walk} (a : Answer) → WalkEnds rule s v (A at p) (before (length s) (A at p) T₁) T₂ W W₁ last
        → Finishes (length s) v last (m + w) T₂ T₃ a → Over rule v s (A at p) T T₃ W W₁ (reply_of a)
    over_answer {last = last} a h f = over_asked r free a (at_start last h) f w counts_start (ap (λ (k : ℕ). k + w) q)

-- ---- The asked pair holds a result: that is the answer.

module _ {rule : ℕ → Rule} {s : List ℕ} {v A p : ℕ} {T W : List ℕ} (r : OverReady rule s v A p T W) (t : Result) (m : Settled (length s) (held (length s) T (A at p)) t) where
  -- In a right table every pair that it reaches holds its result.
  module _ (k : RightTable rule s v T) where
    right_at : (y : Pair) (u : Result) → PairWithin v (length s) y → Settled (length s) (held (length s) T y) u → Has rule s y (result u)
    right_at (B at q) u w h = k.right B q u w h

    reached_held : {y : Pair} → Reached rule s (A at p) y → (u : Result) × Settled (length s) (held (length s) T y) u
    reached_held itself = (t, m)
    reached_held (first_of {A = B} {B = C} {C = D} {D = E} {p = q} i e) =
        let h = reached_held i in
        let w = (reached_cell rule s v r.closed (A at p) r.within i).0 in
        let g = k.whole B C D E q h.0 w h.1 e in
        (g.0, g.2)
    reached_held (of_second {A = B} {B = C} {C = D} {D = E} {p = q} {k = l} {h = o} {t = u} i e d) =
        let h = reached_held i in
        let w = (reached_cell rule s v r.closed (A at p) r.within i).0 in
        let g = k.whole B C D E q h.0 w h.1 e in
        let z = (reached_cell rule s v r.closed (A at p) r.within (first_of i e)).0 in
        let same : result g.0 ≡ result u = has_one rule s (C at q) (result g.0) (result u) (right_at (C at q) g.0 z g.2) (l, o, d) in
        let f : g.0 ≡ u = cc in
        (g.1, subst (λ (a : Result). Settled (length s) (held (length s) T (second D E q a)) g.1) f g.3)

    holds_still : (y : Pair) → Reached rule s (A at p) y → Holds rule s T y
    holds_still y i =
        let h = reached_held i in
        (result h.0, right_at y h.0 (reached_cell rule s v r.closed (A at p) r.within i).0 h.1, h.1.code_is, reaching_pair rule s v T k.reaching y h.0 (reached_cell rule s v r.closed (A at p) r.within i).0 h.1)

  pub over_settled : Over rule v s (A at p) T T W W (reply (result t) (0 at 0) 0)
  over_settled = record {
    later = refl;
    size = refl;
    beyond = refl;
    work_size = refl;
    counts = omega arith;
    small = result_small (length s) t m.ends;
    from_right = λ k. record {
      outcome = result t;
      named = 0 at 0;
      has = k.right A p t r.within m;
      names = refl;
      says =
          let z : 0 ≡ decided (cells v (length s)) T - decided (cells v (length s)) T = omega arith in
          ap (reply (result t) (0 at 0)) z;
      leaves = record { holds = holds_still k; others = λ B q w d. absurd (d refl); others_reach = λ B q w d. absurd (d refl); later = refl; size = refl };
    };
  }
