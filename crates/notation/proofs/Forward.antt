-- What a piece has when read directly, a variable that acts as it has too. Assumes nothing.
use mathlib.Core.List.{List}
use mathlib.Core.Path.{◌≡◌, refl}
use Prim.Native.Nat.{ℕ, ◌+◌, max}
use Rattle.grammar.specs.Rule.{Rule, absent, call}
use Rattle.schema.specs.Derivation.{Pair, ◌at◌, Result, success, failure, Stop, missing, gives, calls, act_of, act, Outcome, result, stopped, loop, Has, leaf, node, here, in_first, in_second}
use Rattle.schema.proofs.Laws.{has_one}
use Rattle.notation.specs.Text.{Line}
use Rattle.notation.specs.Direct.{Piece, Broken, Counts, Reads, none_yet, then, breaks, first, counts, else, by_line, no_line, byte_gives, fails_always, in_round, takes_nothing, must_succeed}
use Rattle.notation.proofs.Acts.{of, Acts, letter_at, quoted_at, fails_at, round_at, not_at, square_at, empty_at, alone_at, next_at, only_at, or_at, Translates, Gets}

module _ (rule : ℕ → Rule) (s : List ℕ) where
  -- ---- A rule of kind 4, by what its first called variable does.
  calls_of : (v p B C D : ℕ) → rule v ≡ call B C D → act rule s (v at p) ≡ calls B C D
  unfolding act_of
  calls_of v p B C D e = rw e refl

  on_success : (v p B C D q : ℕ) (o : Outcome) → rule v ≡ call B C D → Gets rule s (B at p) (result (success q)) → Gets rule s (C at q) o
      → Gets rule s (v at p) o
  on_success v p B C D q (result r) e d f = (d.0 + f.0 + 1, max d.1 f.1 + 1, node (calls_of v p B C D e) d.2 f.2)
  on_success v p B C D q (stopped w) e d f = in_second (calls_of v p B C D e) d.2 f
  on_success v p B C D q loop e d f = f

  on_failure : (v p B C D : ℕ) (o : Outcome) → rule v ≡ call B C D → Gets rule s (B at p) (result failure) → Gets rule s (D at p) o → Gets rule s (v at p) o
  on_failure v p B C D (result r) e d f = (d.0 + f.0 + 1, max d.1 f.1 + 1, node (calls_of v p B C D e) d.2 f.2)
  on_failure v p B C D (stopped w) e d f = in_second (calls_of v p B C D e) d.2 f
  on_failure v p B C D loop e d f = f

  on_stop : (v p B C D : ℕ) (w : Stop) → rule v ≡ call B C D → Gets rule s (B at p) (stopped w) → Gets rule s (v at p) (stopped w)
  on_stop v p B C D w e d = in_first (calls_of v p B C D e) d

  leaf_of : (v p : ℕ) (r : Result) → act_of (rule v) s p ≡ gives r → Gets rule s (v at p) (result r)
  leaf_of v p r e = (1, 1, leaf e)

  has_of : (x : Pair) (o : Outcome) → Gets rule s x o → Has rule s x o
  has_of x (result r) g = g
  has_of x (stopped w) g = g
  has_of x loop g = absurd g

  -- One outcome for each pair.
  gets_one : (x : Pair) (o u : Outcome) → Gets rule s x o → Gets rule s x u → o ≡ u
  gets_one x o u g f = has_one rule s x o u (has_of x o g) (has_of x u f)

module _ {rule : ℕ → Rule} {number : ℕ → ℕ} {E F : ℕ} {Known : ℕ → Type 0} {ls : List Line} (t : Translates rule number E F Known ls) (s : List ℕ) where
  abbrev Got : ℕ → ℕ → Outcome → Type 0
  Got v p o = Gets rule s (v at p) o

  succeeds : (p : ℕ) → Got E p (result (success p))
  unfolding act_of
  succeeds p = leaf_of rule s E p (success p) (rw t.always_at refl)

  fails_there : (p : ℕ) → Got F p (result failure)
  unfolding act_of
  fails_there p = leaf_of rule s F p failure (rw t.never_at refl)

  -- A rule that hands a result on: B(E,F).
  hands_on : (v y p : ℕ) (o : Outcome) → rule v ≡ call y E F → Got y p o → Got v p o
  hands_on v y p (result (success q)) e d = on_success rule s v p y E F q (result (success q)) e d (succeeds q)
  hands_on v y p (result failure) e d = on_failure rule s v p y E F (result failure) e d (fails_there p)
  hands_on v y p (stopped w) e d = on_stop rule s v p y E F w e d
  hands_on v y p loop e d = d

  -- A rule that refuses: B(F,E).
  refuses_success : (v y p q : ℕ) → rule v ≡ call y F E → Got y p (result (success q)) → Got v p (result failure)
  refuses_success v y p q e d = on_success rule s v p y F E q (result failure) e d (fails_there q)

  refuses_failure : (v y p : ℕ) → rule v ≡ call y F E → Got y p (result failure) → Got v p (result (success p))
  refuses_failure v y p e d = on_failure rule s v p y F E (result (success p)) e d (succeeds p)

  row_breaks : (v x y p : ℕ) (o : Outcome) → Broken o → rule v ≡ call x y F → Got x p o → Got v p o
  row_breaks v x y p (result (success q)) b e d = absurd b
  row_breaks v x y p (result failure) b e d = on_failure rule s v p x y F (result failure) e d (fails_there p)
  row_breaks v x y p (stopped w) b e d = on_stop rule s v p x y F w e d
  row_breaks v x y p loop b e d = d

  choice_counts : (v x y p : ℕ) (o : Outcome) → Counts o → rule v ≡ call x E y → Got x p o → Got v p o
  choice_counts v x y p (result (success q)) b e d = on_success rule s v p x E y q (result (success q)) e d (succeeds q)
  choice_counts v x y p (result failure) b e d = absurd b
  choice_counts v x y p (stopped w) b e d = on_stop rule s v p x E y w e d
  choice_counts v x y p loop b e d = d

  square_breaks : (v n y p : ℕ) (o : Outcome) → Broken o → rule n ≡ call y F E → rule v ≡ call n F E → Got y p o → Got v p o
  square_breaks v n y p (result (success q)) b e f d = absurd b
  square_breaks v n y p (result failure) b e f d = refuses_success v n p p f (refuses_failure n y p e d)
  square_breaks v n y p (stopped w) b e f d = on_stop rule s v p n F E w f (on_stop rule s n p y F E w e d)
  square_breaks v n y p loop b e f d = d

  missing_at : (A p : ℕ) → rule (number A) ≡ absent → Got (number A) p (stopped missing)
  unfolding act_of
  missing_at A p e = here {x = number A at p} (rw e refl)

  -- By induction over the direct derivation.
  pub forward : {x : Piece} {p : ℕ} {o : Outcome} → Reads ls s x p o → (v : ℕ) → Acts rule number E F Known (of x) v → Got v p o
  forward (none_yet {p = p}) v (empty_at e) = rw e (succeeds p)
  forward (then {p = p} {q = q} {o = o} d f) v (alone_at a b) =
      let e = gets_one rule s (E at p) (result (success q)) (result (success p)) (forward d E a) (succeeds p) in
      let n : q ≡ p = cc in
      rw n at (forward f v b)
  forward (then {p = p} {q = q} {o = o} d f) v (next_at {x = x} {y = y} a b e) = on_success rule s v p x y F q o e (forward d x a) (forward f y b)
  forward (breaks {p = p} {o = o} n d) v (alone_at a b) = absurd (rw (gets_one rule s (E at p) o (result (success p)) (forward d E a) (succeeds p)) at n)
  forward (breaks {p = p} {o = o} n d) v (next_at {x = x} {y = y} a b e) = row_breaks v x y p o n e (forward d x a)
  forward (first d) v (only_at a) = forward d v a
  forward (counts {p = p} {o = o} n d) v (or_at {x = x} {y = y} a b e) = choice_counts v x y p o n e (forward d x a)
  forward (else {p = p} {o = o} d f) v (or_at {x = x} {y = y} a b e) = on_failure rule s v p x E y o e (forward d x a) (forward f y b)
  forward (by_line {A = A} {p = p} {c = c} {o = o} l d) v (letter_at e k) =
      let m = t.line_at_law A c l in
      rw e (hands_on (number A) m.0 p o m.2 (forward d m.0 m.1))
  forward (no_line {A = A} {p = p} l) v (letter_at e k) = rw e (missing_at A p (t.absent_at A k l))
  forward (byte_gives {p = p} {r = r} e) v (quoted_at f) = leaf_of rule s v p r (rw f e)
  forward (fails_always {p = p}) v (fails_at e) = rw e (fails_there p)
  forward (in_round d) v (round_at a) = forward d v a
  forward (takes_nothing {p = p} {q = q} d) v (square_at {n = n} (not_at {y = y} a e) f) =
      refuses_failure v n p f (refuses_success n y p q e (forward d y a))
  forward (must_succeed {p = p} {o = o} b d) v (square_at {n = n} (not_at {y = y} a e) f) = square_breaks v n y p o b e f (forward d y a)
