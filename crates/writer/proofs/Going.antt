-- The writer's way through the reached pairs: what holds before each step, and that each step keeps it and brings it on, or ends it. Assumes
-- nothing.
use mathlib.Core.Path.{◌≡◌, refl, sym, ap, ap₂, ◌∙◌, subst}
use mathlib.Core.List.{List, [], ◌∷◌, ◌++◌}
use mathlib.Core.Logic.{inl, inr, ◌≢◌}
use Prim.Native.Nat.{ℕ, ◌+◌, ◌*◌, ◌≤◌, ◌<◌}
use native.Mathlib.Decide.{ℕ_discrete}
use native.Mathlib.Omega.{arith}
use lib.ListN.{length, set, take, drop, length-set, length-append}
use lib.Seq.{drop-set-lt, get_or-set_same}
use Rattle.grammar.specs.Rule.{Rule}
use Rattle.schema.specs.Derivation as derivation
use Rattle.schema.specs.Derivation.{Pair, ◌at◌, Result, gives, calls, act, second, Derives, result}
use Rattle.schema.specs.Line.{Line, line_of, line_bytes, lines_bytes, Stands}
use Rattle.schema.specs.Reached.{itself}
use Rattle.schema.specs.Table.{cell, cells, held}
use Rattle.schema.proofs.Cell.{PairWithin, cell_below, cell_one}
use Rattle.schema.proofs.Laws.{derives_one}
use Rattle.cells.specs.Packed.{packed}
use Rattle.step.specs.Codes.{Settled}
use Rattle.step.proofs.Looking.{result_is}
use Rattle.lines.specs.declared.Stand.{Stand}
use Rattle.std.specs.declared.ops.ControlFlow.TheVariants.{Continue, Break}
use Rattle.writer.specs.Writer.{Unwritten, Visits, passed, leaf, node}
use Rattle.lines.specs.Turning.{number_of, link, no_link, Lower, to_first, to_second, Own, of_leaf, of_calls}
use Rattle.writer.specs.Writing.{pair_at, StepReady, Descends, Lays, Returns, Steps, WriteReady, WriteEnds}
use Rattle.writer.proofs.Known.{Known, first_known, second_known, tells, told_derives, lower_known}
use Rattle.schema.proofs.Lines.{stands_none}
use Rattle.writer.proofs.Lines.{line_laid, laid_length}
use Rattle.writer.proofs.Marked.{to_do, linked_less, noted_less, first_due, known_within, Chain, asked, called, chain_known, chain_odd, not_in, chain_set, link_pair, Noted, alike, unwritten, lined, noted_down, noted_line}
use Rattle.writer.proofs.Visiting.{Alike, Below, first_below, second_below, joined}

-- The visit of y that is still to be done from the lines that now stand, then those of its callers: at the end that of x is done.
abbrev pub Owed : (ℕ → Rule) → List ℕ → Pair → Pair → List Pair → List Line → Type 0
Owed rule s x y [] now = (after : List Line) → Unwritten now y → Alike now → Visits rule s now y after → Visits rule s [] x after
Owed rule s x y (z ∷ l) now = (after : List Line) → Unwritten now y → Alike now → Visits rule s now y after → Owed rule s x z l after

-- What is owed once y is visited.
abbrev After : (ℕ → Rule) → List ℕ → Pair → List Pair → List Line → Type 0
After rule s x [] now = Visits rule s [] x now
After rule s x (z ∷ l) now = Owed rule s x z l now

owed_after : {rule : ℕ → Rule} {s : List ℕ} (x : Pair) {y : Pair} (l : List Pair) {now after : List Line} → Owed rule s x y l now → Unwritten now y → Alike now
    → Visits rule s now y after → After rule s x l after
owed_after x [] {after = after} h u g v = h after u g v
owed_after x (z ∷ l) {after = after} h u g v = h after u g v

-- Visiting a called pair first is owed too.
owed_down : {rule : ℕ → Rule} {s : List ℕ} (x : Pair) {y z : Pair} (l : List Pair) {now : List Line} → Below rule s now y z → Unwritten now y → Alike now → Owed rule s x y l now
    → (after : List Line) → Unwritten now z → Alike now → Visits rule s now z after → Owed rule s x y l after
owed_down {rule} {s} x [] b u g h after n q v = λ last m k w. h last u g (joined rule s b m k v w)
owed_down {rule} {s} x (t ∷ l) b u g h after n q v = λ last m k w. h last u g (joined rule s b m k v w)

-- A link is no pair's where none called.
link_some : (v n : ℕ) (z : Pair) → PairWithin v n z → link z ≢ no_link
link_some v n (A at p) w e = let l = w.variable.0 in omega arith

lower_blank : {rule : ℕ → Rule} {s T W : List ℕ} {y z : Pair} → Lower rule s T W y z → number_of (length s) W z ≡ 0
lower_blank (to_first e b) = b
lower_blank (to_second e m b c) = c

-- What holds before a step at y, in a question about x: count lines are written. U and out₀ are the work slice and the output at first.
pub record Going (rule : ℕ → Rule) (s : List ℕ) (v : ℕ) (x : Pair) (U out₀ W out : List ℕ) (y : Pair) (count : ℕ) : Type 0 where
  pub callers : List Pair
  pub steps : ℕ
  pub chain : Chain rule s x W y steps callers
  pub lines : List Line
  pub noted : Noted rule s v W lines (y ∷ callers)
  pub owed : Owed rule s x y callers lines
  pub counted : count ≡ length lines
  pub laid : out ≡ lines_bytes lines ++ drop (49 * length lines) out₀
  pub left : to_do W (cells v (length s)) + 2 * count + length callers + 1 ≡ 2 * cells v (length s)
  pub later : drop (cells v (length s)) W ≡ drop (cells v (length s)) U
  pub size : length W ≡ length U

module _ {rule : ℕ → Rule} {s : List ℕ} {v A p : ℕ} {T U out₀ : List ℕ} (r : WriteReady rule s v A p T U out₀) where
  known_first : (k : ℕ) × Known rule s (A at p) (A at p) k
  known_first = let h = r.lines.has in (h.0, record { reached = itself; found = r.lines.found; height = h.1; derives = h.2 })

  -- At first.
  pub goes_first : Going rule s v (A at p) U out₀ U out₀ (A at p) 0
  unfolding lines_bytes
  goes_first =
      let k = known_first in
      let b = cell_below v (length s) (A at p) r.lines.ready.within in
      let f = first_due U (cells v (length s)) (cell (length s) (A at p)) b r.root r.others in
      record {
        callers = [];
        steps = k.0;
        chain = asked k.1 r.root;
        lines = [];
        noted = record {
          marks = λ z i. elim (ℕ_discrete (cell (length s) z) (cell (length s) (A at p))) [
            | yes e ↦ inr (inl (inl (cell_one v (length s) z (A at p) i r.lines.ready.within e)))
            | no d ↦ inl (r.others (cell (length s) z) (cell_below v (length s) z i) d)
          ];
          only = λ z t i h. absurd (stands_none h);
        };
        owed = λ after u g w. w;
        counted = refl;
        laid = refl;
        left = omega arith;
        later = refl;
        size = refl;
      }

  module _ {W out : List ℕ} {y : Pair} {count : ℕ} (g : Going rule s v (A at p) U out₀ W out y count) where
    pub here : Known rule s (A at p) y g.steps
    here = chain_known g.chain

    pub here_within : PairWithin v (length s) y
    here_within = known_within v r.lines.ready.closed r.lines.ready.within here

    no_line : Unwritten g.lines y
    no_line = let o = chain_odd g.chain in unwritten g.noted o.0 o.1

    pub work_room : cells v (length s) ≤ length W
    work_room = let z = g.size in let w = r.lines.ready.work_room in omega arith

    pub few_lines : count < cells v (length s)
    few_lines = let l = g.left in omega arith

    pub output_length : length out ≡ length out₀
    output_length =
        let l = few_lines in
        let k = g.counted in
        let o = r.lines.out_room in
        laid_length g.lines out₀ out (omega arith) g.laid

    -- The line of a called pair for which the work slice holds a number.
    line_of_law : {z : Pair} {j : ℕ} {t : Result} → Known rule s (A at p) z j → j < g.steps → number_of (length s) W z ≢ 0 → Settled (length s) (held (length s) T z) t
        → (i : ℕ) × (number_of (length s) W z ≡ 2 * i) × Stands g.lines i z t
    line_of_law {z} a l d m =
        let h = lined g.noted z (known_within v r.lines.ready.closed r.lines.ready.within a) d (not_in a l g.chain) in
        let o = g.noted.only z h.result h.number h.stands in
        let e = (derives_one rule s o.2.2 (told_derives T r.lines.finished a m)).0 in
        (h.number, h.held_is, subst (Stands g.lines h.number z) e h.stands)

  leaf_gives : {y : Pair} {t : Result} {k h : ℕ} → Derives rule s y t k h → ((B C D : ℕ) → act rule s y ≢ calls B C D) → act rule s y ≡ gives t
  leaf_gives (derivation.Derives.leaf e) n = e
  leaf_gives (derivation.Derives.node {B = B} {C = C} {D = D} e a b) n = absurd (n B C D e)

  module _ {W out : List ℕ} {count : ℕ} where
    -- A pair to go down to is called after what was visited.
    lower_below : {y z : Pair} (g : Going rule s v (A at p) U out₀ W out y count) → Lower rule s T W y z → Below rule s g.lines y z
    lower_below g (to_first e b) = first_below e
    lower_below g (to_second e m b c) = let f = first_known (here g) e in second_below e (line_of_law g f.2 f.1 b m).2

    -- The pair's own line is what its visit adds.
    visited : {y : Pair} {i j : ℕ} (g : Going rule s v (A at p) U out₀ W out y count) → Own rule s T W y i j
        → Visits rule s g.lines y (g.lines ++ line_of y (here g).found i j ∷ [])
    visited g (of_leaf n) = leaf (no_line g) (leaf_gives (here g).derives n)
    visited {i = i} {j = j} g (of_calls {B = B} {C = C} {D = D} {p = q} {t = t} e m b c) =
        let f = first_known (here g) e in
        let k = second_known (here g) e (told_derives T r.lines.finished f.2 m) in
        let h = line_of_law g f.2 f.1 b m in
        let o = line_of_law g k.2 k.1 c (tells T r.lines.finished k.2) in
        let o₁ = subst (Stands g.lines o.0 (second C D q t)) k.3 o.2 in
        let x = h.1 in
        let y = o.1 in
        let a : h.0 ≡ i = omega arith in
        let d : o.0 ≡ j = omega arith in
        let h₁ = subst (λ (u : ℕ). Stands g.lines u (B at q) t) a h.2 in
        let o₂ = subst (λ (u : ℕ). Stands g.lines u (second C D q t) (here g).found) d o₁ in
        node (no_line g) e (passed h₁) h₁ (passed o₂) o₂

  -- ---- The steps.

  module _ {W out : List ℕ} {y : Stand} (g : Going rule s v (A at p) U out₀ W out (pair_at y) y.lines) where
    -- What a step asks.
    pub may_step : StepReady rule s v T W out y
    may_step =
        let q = r.lines.ready in
        let z = output_length g in
        let o = r.lines.out_room in
        record {
          turns = record {
            few = q.few;
            short = q.short;
            closed = q.closed;
            within = here_within g;
            room = q.room;
            work_room = work_room g;
            found = (here g).found;
            settled = tells T r.lines.finished (here g);
            first = λ B C D e. let f = first_known (here g) e in (f.2.found, tells T r.lines.finished f.2);
          };
          few_lines = few_lines g;
          out_room = omega arith;
        }

    module _ {W' out' : List ℕ} where
      -- Down to a called pair.
      pub goes_down : {z : Stand} → Descends rule s T W out W' out' y z
          → Going rule s v (A at p) U out₀ W' out' (pair_at z) z.lines × (to_do W' (cells v (length s)) < to_do W (cells v (length s)))
      goes_down {z} d =
          let n = length s in
          let q = r.lines.ready in
          let k = lower_known T r.lines.finished (here g) d.lower in
          let i = known_within v q.closed q.within k.2 in
          let b = cell_below v n (pair_at z) i in
          let w = work_room g in
          let e = lower_blank d.lower in
          let m = link (pair_at y) in
          let c = cell n (pair_at z) in
          let t = linked_less W (cells v n) c m b w (packed (pair_at y)) refl e in
          let l = g.left in
          let x = d.lines_same in
          rw (d.work_is, d.out_same, d.lines_same) (
            record {
              callers = pair_at y ∷ g.callers;
              steps = k.0;
              chain = called k.2 (get_or-set_same W c m 0 (omega arith)) k.1 (chain_set v q.closed q.within m k.2 k.1 g.chain);
              lines = g.lines;
              noted = noted_down g.noted (pair_at z) m i (omega arith) e;
              owed = owed_down (A at p) g.callers (lower_below g d.lower) (no_line g) (alike g.noted) g.owed;
              counted = g.counted;
              laid = g.laid;
              left = omega arith;
              later = drop-set-lt (cells v n) W c m b ∙ g.later;
              size = length-set W c m ∙ g.size;
            },
            omega arith,
          )

      module _ (lays : Lays rule s T W out W' out' y) where
        -- The lines with that of the pair.
        unfoldable next : List Line
        next = g.lines ++ line_of (pair_at y) (here g).found lays.first lays.second ∷ []

        in_cells : cell (length s) (pair_at y) < cells v (length s)
        in_cells = cell_below v (length s) (pair_at y) (here_within g)

        next_after : After rule s (A at p) g.callers next
        unfolding next
        next_after = owed_after (A at p) g.callers g.owed (no_line g) (alike g.noted) (visited g lays.own)

        next_noted : Noted rule s v W' next g.callers
        unfolding next
        next_noted =
            let o = chain_odd g.chain in
            let w = work_room g in
            let b = in_cells in
            let k = here g in
            let n = g.counted in
            rw lays.work_is (noted_line g.noted o.0 o.1 (here_within g) (omega arith) k.found (g.steps, k.height, k.derives) lays.first lays.second
            (2 * (y.lines + 1)) (omega arith))

        next_counted : y.lines + 1 ≡ length next
        unfolding next
        next_counted =
            let k = g.counted in
            let z = length-append g.lines (line_of (pair_at y) (here g).found lays.first lays.second ∷ []) in
            omega arith

        next_laid : out' ≡ lines_bytes next ++ drop (49 * length next) out₀
        unfolding next
        next_laid =
            line_laid g.lines (line_of (pair_at y) (here g).found lays.first lays.second) y.lines out₀ out out' g.counted g.laid
            (lays.line ∙ ap (λ (t : Result). take (49 * y.lines) out ++ (line_bytes (line_of (pair_at y) t lays.first lays.second) ++ drop (49 * y.lines + 49) out))
            (result_is (length s) (held (length s) T (pair_at y)) (here g).found (tells T r.lines.finished (here g))))

        next_less : to_do W' (cells v (length s)) + 1 ≡ to_do W (cells v (length s))
        next_less =
            let o = chain_odd g.chain in
            rw lays.work_is (noted_less W (cells v (length s)) (cell (length s) (pair_at y)) (2 * (y.lines + 1)) in_cells (work_room g) y.lines o.0 refl o.1)

        next_later : drop (cells v (length s)) W' ≡ drop (cells v (length s)) U
        next_later = rw lays.work_is (drop-set-lt (cells v (length s)) W (cell (length s) (pair_at y)) (2 * (y.lines + 1)) in_cells ∙ g.later)

        next_size : length W' ≡ length U
        next_size = ap length lays.work_is ∙ length-set W (cell (length s) (pair_at y)) (2 * (y.lines + 1)) ∙ g.size

        resumes : {u : Pair} {k : ℕ} (l : List Pair) → u ≡ pair_at y → Chain rule s (A at p) W u k l → number_of (length s) W u ≢ no_link → After rule s (A at p) l next → Noted rule s v W' next l
            → to_do W (cells v (length s)) + 2 * y.lines + length l + 1 ≡ 2 * cells v (length s)
            → (z : Pair) × (number_of (length s) W u ≡ link z) × Going rule s v (A at p) U out₀ W' out' z (y.lines + 1)
        resumes [] q (asked a e) d f n m = absurd (d e)
        resumes {u} (w ∷ l) q (called {z = z} {j = j} a e h b) d f n m =
            let x = next_less in (
              z,
              e,
              record {
                callers = l;
                steps = j;
                chain = rw (lays.work_is ∙ ap (λ (t : Pair). set W (cell (length s) t) (2 * (y.lines + 1))) (sym q))
                    (chain_set v r.lines.ready.closed r.lines.ready.within (2 * (y.lines + 1)) a h b);
                lines = next;
                noted = n;
                owed = f;
                counted = next_counted;
                laid = next_laid;
                left = omega arith;
                later = next_later;
                size = next_size;
              },
            )

        -- Back to the caller.
        pub goes_back : {z : Stand} → Returns s W y z
            → Going rule s v (A at p) U out₀ W' out' (pair_at z) z.lines × (to_do W' (cells v (length s)) < to_do W (cells v (length s)))
        goes_back {z} b =
            let k = resumes g.callers refl g.chain b.linked next_after next_noted g.left in
            let i = known_within v r.lines.ready.closed r.lines.ready.within (chain_known k.2.chain) in
            let e : pair_at z ≡ k.0 = ap₂ ◌at◌ b.variable_is b.position_is ∙ link_pair v (length s) (number_of (length s) W (pair_at y)) k.0 r.lines.ready.short i k.1 in
            let x = next_less in (
              subst (λ (u : Pair). Going rule s v (A at p) U out₀ W' out' u z.lines) (sym e)
                  (subst (Going rule s v (A at p) U out₀ W' out' k.0) (sym b.lines_are) k.2),
              omega arith,
            )

        done : {u : Pair} {k : ℕ} {l : List Pair} → Chain rule s (A at p) W u k l → number_of (length s) W u ≡ no_link → After rule s (A at p) l next → Visits rule s [] (A at p) next
        done (asked a e) n f = f
        done (called {z = z} a e h b) n f =
            absurd (link_some v (length s) z (known_within v r.lines.ready.closed r.lines.ready.within (chain_known b)) (sym e ∙ n))

        -- The line of the asked pair is the last.
        pub goes_end : {count : ℕ} → number_of (length s) W (pair_at y) ≡ no_link → count ≡ y.lines + 1 → WriteEnds rule s v (A at p) U W' out₀ out' count
        goes_end e q = record {
          beyond = next_later;
          size = next_size;
          lines = next;
          ordered = done g.chain e next_after;
          counted = q ∙ next_counted;
          written = next_laid;
        }

    -- A step that goes on, and one that ends.
    pub goes_on : {W' out' : List ℕ} (z : Stand) → Steps rule s T W out W' out' y (Continue z)
        → Going rule s v (A at p) U out₀ W' out' (pair_at z) z.lines × (to_do W' (cells v (length s)) < to_do W (cells v (length s)))
    goes_on z h = elim h [ inl d ↦ goes_down d | inr b ↦ goes_back b.0 b.1 ]

    pub ends : {W' out' : List ℕ} (count : ℕ) → Steps rule s T W out W' out' y (Break count) → WriteEnds rule s v (A at p) U W' out₀ out' count
    ends count h = goes_end h.0 h.1 h.2
