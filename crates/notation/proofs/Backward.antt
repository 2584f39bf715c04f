-- What a variable has that acts as a piece, the piece has when read directly. Assumes nothing.
use mathlib.Core.Bool.{true≢false}
use mathlib.Core.List.{List}
use mathlib.Core.Option.{Option, none, some}
use mathlib.Core.Path.{◌≡◌, refl, sym, ◌∙◌, subst}
use Prim.Native.Nat.{ℕ}
use Rattle.grammar.specs.Rule.{Rule, absent, always, never, byte, call}
use Rattle.schema.specs.Derivation.{Pair, ◌at◌, Result, success, failure, Stop, Act, gives, stops, calls, act_of, act, second, Outcome, result, stopped, loop, Derives, leaf, node, Stops, here, in_first, in_second}
use Rattle.schema.proofs.Closed.{calls_call, byte_result}
use Rattle.notation.specs.Text.{round, square, Item, letter, quoted, fails, inside, Row, empty, next, Choice, only, or, Line, line_of}
use Rattle.notation.specs.Direct.{item, row, choice, Reads, none_yet, then, breaks, first, counts, else, by_line, no_line, byte_gives, fails_always, in_round, takes_nothing, must_succeed}
use Rattle.notation.proofs.Acts.{Thing, of, not, Acts, letter_at, quoted_at, fails_at, round_at, not_at, square_at, empty_at, alone_at, next_at, only_at, or_at, Translates, Gets}

-- ---- What a thing has, read directly.

-- The refusal of a choice.
pub data Refuses (ls : List Line) (s : List ℕ) (c : Choice) : ℕ → Outcome → Type 0 where
  on_success : {p q : ℕ} → Reads ls s (choice c) p (result (success q)) → Refuses ls s c p (result failure)
  on_failure : {p : ℕ} → Reads ls s (choice c) p (result failure) → Refuses ls s c p (result (success p))
  on_stop : {p : ℕ} {w : Stop} → Reads ls s (choice c) p (stopped w) → Refuses ls s c p (stopped w)

abbrev pub Meant : List Line → List ℕ → Thing → ℕ → Outcome → Type 0
Meant ls s (of x) p o = Reads ls s x p o
Meant ls s (not c) p o = Refuses ls s c p o

module _ {rule : ℕ → Rule} {number : ℕ → ℕ} {E F : ℕ} {Known : ℕ → Type 0} {ls : List Line} (t : Translates rule number E F Known ls) (s : List ℕ) where
  abbrev At : Thing → ℕ → Type 0
  At x v = Acts rule number E F Known x v

  abbrev Is : Thing → ℕ → Outcome → Type 0
  Is x p o = Meant ls s x p o

  -- Each thing that v acts as has the outcome at p.
  abbrev All : ℕ → ℕ → Outcome → Type 0
  All v p o = (x : Thing) → At x v → Is x p o

  empty_ends : {p : ℕ} {o : Outcome} → Reads ls s (row empty) p o → o ≡ result (success p)
  empty_ends none_yet = refl

  fails_fails : {p : ℕ} {o : Outcome} → Reads ls s (item fails) p o → o ≡ result failure
  fails_fails fails_always = refl

  at_E : (v p : ℕ) (o : Outcome) → v ≡ E → All v p o → o ≡ result (success p)
  at_E v p o e h = empty_ends (h (of (row empty)) (empty_at e))

  at_F : (v p : ℕ) (o : Outcome) → v ≡ F → All v p o → o ≡ result failure
  at_F v p o e h = fails_fails (h (of (item fails)) (fails_at e))

  -- ---- A rule that calls nothing.

  -- The outcome of what a rule does, if it calls nothing.
  abbrev Gives : Act → Outcome → Type 0
  Gives (gives r) o = o ≡ result r
  Gives (stops w) o = o ≡ stopped w
  Gives (calls B C D) o = ⊥

  no_call : (v p B C D : ℕ) (o : Outcome) → rule v ≡ call B C D → Gives (act_of (rule v) s p) o → ⊥
  unfolding act_of
  no_call v p B C D o e g = rw e at g

  by_byte : (b p : ℕ) (o : Outcome) (a : Act) → act_of (byte b) s p ≡ a → Gives a o → Reads ls s (item (quoted b)) p o
  by_byte b p o (gives r) e g = rw g (byte_gives e)
  by_byte b p o (stops w) e g = let f = (byte_result b s p).1 in absurd (true≢false (cc))
  by_byte b p o (calls B C D) e g = absurd g

  by_letter : (A v p : ℕ) (o : Outcome) → v ≡ number A → Known A → (m : Option Choice) → line_of ls A ≡ m → Gives (act_of (rule v) s p) o
      → Reads ls s (item (letter A)) p o
  unfolding act_of
  by_letter A v p o e k none f g = rw (rw (e, t.absent_at A k f) at g) (no_line f)
  by_letter A v p o e k (some c) f g = let l = t.line_at_law A c f in absurd (no_call v p l.0 E F o (rw e l.2) g)

  always_gives : (p : ℕ) → Gives (act_of (rule E) s p) (result (success p))
  unfolding act_of
  always_gives p = rw t.always_at refl

  by_leaf : {x : Thing} {v : ℕ} → At x v → (p : ℕ) (o : Outcome) → Gives (act_of (rule v) s p) o → Is x p o
  unfolding act_of
  by_leaf {v = v} (letter_at {A = A} e k) p o g = by_letter A v p o e k (line_of ls A) refl g
  by_leaf (quoted_at {b = b} e) p o g = by_byte b p o (act_of (byte b) s p) refl (rw e at g)
  by_leaf (fails_at e) p o g = rw (rw (e, t.never_at) at g) fails_always
  by_leaf (round_at a) p o g = in_round (by_leaf a p o g)
  by_leaf {v = v} (not_at {y = y} a e) p o g = absurd (no_call v p y F E o e g)
  by_leaf {v = v} (square_at {n = n} a e) p o g = absurd (no_call v p n F E o e g)
  by_leaf (empty_at e) p o g = rw (rw (e, t.always_at) at g) none_yet
  by_leaf (alone_at a b) p o g = then (by_leaf a p (result (success p)) (always_gives p)) (by_leaf b p o g)
  by_leaf {v = v} (next_at {x = x} {y = y} a b e) p o g = absurd (no_call v p x y F o e g)
  by_leaf (only_at a) p o g = first (by_leaf a p o g)
  by_leaf {v = v} (or_at {x = x} {y = y} a b e) p o g = absurd (no_call v p x E y o e g)

  refused_success : {c : Choice} {p q : ℕ} → Refuses ls s c p (result (success q)) → Reads ls s (choice c) p (result failure)
  refused_success (on_failure d) = d

  refused_failure : {c : Choice} {p : ℕ} → Refuses ls s c p (result failure) → (q : ℕ) × Reads ls s (choice c) p (result (success q))
  refused_failure (on_success {q = q} d) = (q, d)

  refused_stop : {c : Choice} {p : ℕ} {w : Stop} → Refuses ls s c p (stopped w) → Reads ls s (choice c) p (stopped w)
  refused_stop (on_stop d) = d

  -- ---- A rule B(C,D).

  -- What such a rule acts as, up to brackets and choices of one row.
  data Core (B C D : ℕ) : Thing → Type 0 where
    a_line : {A : ℕ} {c : Choice} → line_of ls A ≡ some c → At (of (choice c)) B → C ≡ E → D ≡ F → Core B C D (of (item (letter A)))
    a_not : {c : Choice} → At (of (choice c)) B → C ≡ F → D ≡ E → Core B C D (not c)
    a_square : {c : Choice} → At (not c) B → C ≡ F → D ≡ E → Core B C D (of (item (inside square c)))
    a_next : {r : Row} {i : Item} → At (of (row r)) B → At (of (item i)) C → D ≡ F → Core B C D (of (row (next r i)))
    a_or : {c : Choice} {r : Row} → At (of (choice c)) B → C ≡ E → At (of (row r)) D → Core B C D (of (choice (or c r)))

  module _ (v p B C D : ℕ) (e : rule v ≡ call B C D) where
    same : (x y z : ℕ) → rule v ≡ call x y z → (x ≡ B) × (y ≡ C) × (z ≡ D)
    same x y z f = (cc, cc, cc)

    letter_core : (A : ℕ) → v ≡ number A → Known A → (m : Option Choice) → line_of ls A ≡ m → Core B C D (of (item (letter A)))
    letter_core A f k none l = let h : rule v ≡ absent = rw f (t.absent_at A k l) in absurd (true≢false (cc))
    letter_core A f k (some c) l =
        let m = t.line_at_law A c l in
        let g = same m.0 E F (rw f m.2) in
        a_line l (rw g.0 at m.1) (sym g.1) (sym g.2)

    by_core : (o : Outcome) → ((x : Thing) → Core B C D x → Is x p o) → (x : Thing) {u : ℕ} → At x u → u ≡ v → Is x p o
    by_core o k (of (item (letter A))) (letter_at f h) w = k (of (item (letter A))) (letter_core A (sym w ∙ f) h (line_of ls A) refl)
    by_core o k (of (item (quoted b))) (quoted_at f) w = let h : rule v ≡ byte b = rw (sym w) f in absurd (true≢false (cc))
    by_core o k (of (item fails)) (fails_at f) w = let h : rule v ≡ never = rw (sym w ∙ f) t.never_at in absurd (true≢false (cc))
    by_core o k (of (item (inside round c))) (round_at a) w = in_round (by_core o k (of (choice c)) a w)
    by_core o k (not c) (not_at {y = y} a f) w =
        let g = same y F E (rw (sym w) f) in
        k (not c) (a_not (rw g.0 at a) (sym g.1) (sym g.2))
    by_core o k (of (item (inside square c))) (square_at {n = n} a f) w =
        let g = same n F E (rw (sym w) f) in
        k (of (item (inside square c))) (a_square (rw g.0 at a) (sym g.1) (sym g.2))
    by_core o k (of (row empty)) (empty_at f) w = let h : rule v ≡ always = rw (sym w ∙ f) t.always_at in absurd (true≢false (cc))
    by_core o k (of (row (next r i))) (alone_at a b) w = then (by_leaf a p (result (success p)) (always_gives p)) (by_core o k (of (item i)) b w)
    by_core o k (of (row (next r i))) (next_at {x = x} {y = y} a b f) w =
        let g = same x y F (rw (sym w) f) in
        k (of (row (next r i))) (a_next (rw g.0 at a) (rw g.1 at b) (sym g.2))
    by_core o k (of (choice (only r))) (only_at a) w = first (by_core o k (of (row r)) a w)
    by_core o k (of (choice (or c r))) (or_at {x = x} {y = y} a b f) w =
        let g = same x E y (rw (sym w) f) in
        k (of (choice (or c r))) (a_or (rw g.0 at a) (sym g.1) (rw g.2 at b))

    -- B succeeds ending at q, and C at q has the outcome.
    on_c : (q : ℕ) (o : Outcome) → All B p (result (success q)) → All C q o → (x : Thing) → Core B C D x → Is x p o
    on_c q o b c (of (item (letter A))) (a_line {c = y} l a f g) = rw (at_E C q o f c) (by_line l (b (of (choice y)) a))
    on_c q o b c (not y) (a_not a f g) = rw (at_F C q o f c) (on_success (b (of (choice y)) a))
    on_c q o b c (of (item (inside square y))) (a_square a f g) = rw (at_F C q o f c) (must_succeed tt (refused_success (b (not y) a)))
    on_c q o b c (of (row (next r i))) (a_next a h g) = then (b (of (row r)) a) (c (of (item i)) h)
    on_c q o b c (of (choice (or y r))) (a_or a f h) = rw (at_E C q o f c) (counts tt (b (of (choice y)) a))
    on_c q o b c (of (item (quoted _))) x7 = elim x7 [ ]
    on_c q o b c (of (item fails)) x7 = elim x7 [ ]
    on_c q o b c (of (item (inside round y))) x10 = elim x10 [ ]
    on_c q o b c (of (row empty)) x7 = elim x7 [ ]
    on_c q o b c (of (choice (only _))) x9 = elim x9 [ ]

    -- B fails, and D at p has the outcome.
    on_d : (o : Outcome) → All B p (result failure) → All D p o → (x : Thing) → Core B C D x → Is x p o
    on_d o b d (of (item (letter A))) (a_line {c = y} l a f g) = rw (at_F D p o g d) (by_line l (b (of (choice y)) a))
    on_d o b d (not y) (a_not a f g) = rw (at_E D p o g d) (on_failure (b (of (choice y)) a))
    on_d o b d (of (item (inside square y))) (a_square a f g) = rw (at_E D p o g d) (takes_nothing (refused_failure (b (not y) a)).1)
    on_d o b d (of (row (next r i))) (a_next a h g) = rw (at_F D p o g d) (breaks tt (b (of (row r)) a))
    on_d o b d (of (choice (or y r))) (a_or a f h) = else (b (of (choice y)) a) (d (of (row r)) h)
    on_d o b d (of (item (quoted _))) x7 = elim x7 [ ]
    on_d o b d (of (item fails)) x7 = elim x7 [ ]
    on_d o b d (of (item (inside round y))) x10 = elim x10 [ ]
    on_d o b d (of (row empty)) x7 = elim x7 [ ]
    on_d o b d (of (choice (only _))) x9 = elim x9 [ ]

    -- B is stopped.
    on_b : (w : Stop) → All B p (stopped w) → (x : Thing) → Core B C D x → Is x p (stopped w)
    on_b w b (of (item (letter A))) (a_line {c = y} l a f g) = by_line l (b (of (choice y)) a)
    on_b w b (not y) (a_not a f g) = on_stop (b (of (choice y)) a)
    on_b w b (of (item (inside square y))) (a_square a f g) = must_succeed tt (refused_stop (b (not y) a))
    on_b w b (of (row (next r i))) (a_next a h g) = breaks tt (b (of (row r)) a)
    on_b w b (of (choice (or y r))) (a_or a f h) = counts tt (b (of (choice y)) a)
    on_b w b (of (item (quoted _))) x7 = elim x7 [ ]
    on_b w b (of (item fails)) x7 = elim x7 [ ]
    on_b w b (of (item (inside round y))) x10 = elim x10 [ ]
    on_b w b (of (row empty)) x7 = elim x7 [ ]
    on_b w b (of (choice (only _))) x9 = elim x9 [ ]

  -- ---- A whole derivation.

  abbrev Each : Pair → Outcome → Type 0
  Each (v at p) o = All v p o

  leaves : (z : Pair) (a : Act) (o : Outcome) → act rule s z ≡ a → Gives a o → Each z o
  leaves (v at p) a o e g = λ x h. by_leaf h p o (subst (λ (u : Act). Gives u o) (sym e) g)

  nodes : (v p B C D : ℕ) (r : Result) (o : Outcome) → rule v ≡ call B C D → All B p (result r) → Each (second C D p r) o → All v p o
  nodes v p B C D (success q) o e b c = λ x h. by_core v p B C D e o (on_c v p B C D e q o b c) x h refl
  nodes v p B C D failure o e b d = λ x h. by_core v p B C D e o (on_d v p B C D e o b d) x h refl

  done_back : {z : Pair} {r : Result} {k h : ℕ} → Derives rule s z r k h → Each z (result r)
  done_back (leaf {x = z} {r = r} e) = leaves z (gives r) (result r) e refl
  done_back (node {A = v} {B = B} {C = C} {D = D} {p = p} {r = r} {t = u} e d f) =
      nodes v p B C D u (result r) (calls_call (rule v) s p B C D e) (done_back d) (done_back f)

  stop_back : {w : Stop} {z : Pair} → Stops rule s w z → Each z (stopped w)
  stop_back {w = w} (here {x = z} e) = leaves z (stops w) (stopped w) e refl
  stop_back {w = w} (in_first {A = v} {B = B} {C = C} {D = D} {p = p} e d) =
      let c = calls_call (rule v) s p B C D e in
      λ x h. by_core v p B C D c (stopped w) (on_b v p B C D c w (stop_back d)) x h refl
  stop_back {w = w} (in_second {A = v} {B = B} {C = C} {D = D} {p = p} {t = u} e d f) =
      nodes v p B C D u (stopped w) (calls_call (rule v) s p B C D e) (done_back d) (stop_back f)

  -- Every outcome by a finite derivation.
  pub backward : (v p : ℕ) (o : Outcome) → Gets rule s (v at p) o → All v p o
  backward v p (result r) g = done_back g.2
  backward v p (stopped w) g = stop_back g
  backward v p loop g = absurd g
