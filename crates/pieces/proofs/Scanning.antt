-- A text read on from a position, byte by byte. Assumes nothing.
use mathlib.Core.Bool.{true, false}
use mathlib.Core.List.{List, [], ◌∷◌, ◌++◌}
use mathlib.Core.Option.{none, some}
use mathlib.Core.Path.{◌≡◌, sym, ap, ◌∙◌}
use Prim.Native.Nat.{ℕ, ◌+◌, ◌-◌, ◌≤◌, ◌<◌}
use native.Mathlib.Decide.{dec_lt}
use native.Mathlib.Numerals.{add-one}
use native.Mathlib.Omega.{arith}
use lib.ListN.{length, get_or, take, drop, get_or-eq_default, drop_of_length-le}
use Rattle.std.proofs.lemmas.List.{get_or-drop, take_rest}
use lib.Seq.{drop-cons}
use borrow.Author.Tests.{ne_eqb}
use Rattle.grammar.specs.Refusal.{refused}
use Rattle.grammar.specs.declared.refusal.Refusal.TheVariants.{Text, Nesting}
use Rattle.notation.specs.Scan.{Part, part, with_item, part_of, Open, opened, State, choosing, quoting, unquoting, before, faults, ends, step, chooses, finish, after, scan}
use Rattle.notation.specs.Text.{Bracket, round, square, opener, closer, letter, quoted, fails, inside, empty, Choice, Line, line, capital}
use Rattle.notation.proofs.Read.{whole_part}
use Rattle.pieces.specs.Piece.{begins_item, Moves, Refuses}
use Rattle.pieces.proofs.Bytes.{other}

module _ (s : List ℕ) (q : ℕ) where
  -- A byte that is not 0 stands before the end.
  pub before_end : (b : ℕ) → 0 < b → get_or s q 0 ≡ b → q < length s
  before_end b p e = go (dec_lt q (length s))
    where
      go : Dec (q < length s) → q < length s
      go (yes l) = l
      go (no n) = let h : length s ≤ q = omega arith in absurd (omega (arith, get_or-eq_default s 0 h))

  -- The byte at the position, and the rest.
  pub one : (z : State) → q < length s → scan (drop q s) z ≡ after (step z (get_or s q 0)) (λ y. scan (drop (q + 1) s) y)
  unfolding scan
  one z l = ap (λ (w : List ℕ). scan w z) (drop-cons s q 0 l) ∙ ap (λ (i : ℕ). after (step z (get_or s q 0)) (λ y. scan (drop i s) y)) (sym (add-one q))

  -- Past the last byte.
  pub at_end_law : (z : State) → length s ≤ q → scan (drop q s) z ≡ finish z
  unfolding scan
  at_end_law z l = ap (λ (w : List ℕ). scan w z) (drop_of_length-le s l)

  pub byte_is : (b : ℕ) (z : State) → 0 < b → get_or s q 0 ≡ b → scan (drop q s) z ≡ after (step z b) (λ y. scan (drop (q + 1) s) y)
  byte_is b z p e = one z (before_end b p e) ∙ ap (λ (w : ℕ). after (step z w) (λ y. scan (drop (q + 1) s) y)) e

  module _ (depth : ℕ) where
    pub letter_moves : capital (get_or s q 0) ≡ true → q < length s → (x : Part) → Moves s depth q x (q + 1) (with_item x (letter (get_or s q 0)))
    unfolding step chooses
    letter_moves c l x ls A os d = one (choosing ls A os x) l ∙ rw c

    pub percent_moves : get_or s q 0 ≡ 37 → (x : Part) → Moves s depth q x (q + 1) (with_item x fails)
    unfolding step chooses
    percent_moves e x ls A os d = byte_is 37 (choosing ls A os x) (omega arith) e

    pub slash_moves : get_or s q 0 ≡ 47 → (c : Choice) → Moves s depth q (part_of c) (q + 1) (part (some c) empty)
    unfolding step chooses
    slash_moves e c ls A os d =
        byte_is 47 (choosing ls A os (part_of c)) (omega arith) e ∙ ap (λ (y : Choice). scan (drop (q + 1) s) (choosing ls A os (part (some y) empty))) (whole_part c)

    pub too_deep : (k : Bracket) → get_or s q 0 ≡ opener k → depth ≡ 16 → (x : Part) → Refuses s depth q x Nesting
    unfolding step chooses
    too_deep round e f x ls A os d = byte_is 40 (choosing ls A os x) (omega arith) e ∙ rw (d, f)
    too_deep square e f x ls A os d = byte_is 91 (choosing ls A os x) (omega arith) e ∙ rw (d, f)

    pub opens_bracket : (k : Bracket) → get_or s q 0 ≡ opener k → (depth ≡ 16 → ⊥) → (x : Part) (ls : List Line) (A : ℕ) (os : List Open) → length os ≡ depth
        → scan (drop q s) (choosing ls A os x) ≡ scan (drop (q + 1) s) (choosing ls A (opened k x ∷ os) (part none empty))
    unfolding step chooses
    opens_bracket round e f x ls A os d = byte_is 40 (choosing ls A os x) (omega arith) e ∙ rw (d, ne_eqb depth 16 f)
    opens_bracket square e f x ls A os d = byte_is 91 (choosing ls A os x) (omega arith) e ∙ rw (d, ne_eqb depth 16 f)

  pub closes_bracket : (k : Bracket) → get_or s q 0 ≡ closer k → (c : Choice) (x : Part) (ls : List Line) (A : ℕ) (os : List Open)
      → scan (drop q s) (choosing ls A (opened k x ∷ os) (part_of c)) ≡ scan (drop (q + 1) s) (choosing ls A os (with_item x (inside k c)))
  unfolding step chooses
  closes_bracket round e c x ls A os =
      byte_is 41 (choosing ls A (opened round x ∷ os) (part_of c)) (omega arith) e
      ∙ ap (λ (y : Choice). scan (drop (q + 1) s) (choosing ls A os (with_item x (inside round y)))) (whole_part c)
  closes_bracket square e c x ls A os =
      byte_is 93 (choosing ls A (opened square x ∷ os) (part_of c)) (omega arith) e
      ∙ ap (λ (y : Choice). scan (drop (q + 1) s) (choosing ls A os (with_item x (inside square y)))) (whole_part c)

  -- What neither goes on nor ends the choice is refused, and so is the end of the text.
  stops : (ls : List Line) (A : ℕ) (os : List Open) (x : Part) → begins_item (get_or s q 0) ≡ false → (get_or s q 0 ≡ 47 → ⊥) → ends ls A os x (get_or s q 0) ≡ faults 15
      → scan (drop q s) (choosing ls A os x) ≡ refused 15 0
  unfolding step chooses
  stops ls A os x n f e = go (dec_lt q (length s))
    where
      go : Dec (q < length s) → scan (drop q s) (choosing ls A os x) ≡ refused 15 0
      go (yes l) =
          let o = other (get_or s q 0) n in
          one (choosing ls A os x) l ∙ rw (o.not_capital, o.not_percent, o.not_quote, ne_eqb (get_or s q 0) 47 f, o.not_round, o.not_square, e)
      go (no d) = at_end_law (choosing ls A os x) (omega arith)

  pub not_closed : (k : Bracket) → begins_item (get_or s q 0) ≡ false → (get_or s q 0 ≡ 47 → ⊥) → (get_or s q 0 ≡ closer k → ⊥)
      → (x y : Part) (ls : List Line) (A : ℕ) (os : List Open) → scan (drop q s) (choosing ls A (opened k y ∷ os) x) ≡ refused 15 0
  not_closed k n f g x y ls A os = stops ls A (opened k y ∷ os) x n f (rw (ne_eqb (get_or s q 0) (closer k) g))

  -- Outside all brackets it is byte 10 that ends the choice.
  pub line_not_ended : begins_item (get_or s q 0) ≡ false → (get_or s q 0 ≡ 47 → ⊥) → (get_or s q 0 ≡ 10 → ⊥)
      → (x : Part) (ls : List Line) (A : ℕ) → scan (drop q s) (choosing ls A [] x) ≡ refused 15 0
  line_not_ended n f g x ls A = stops ls A [] x n f (rw (ne_eqb (get_or s q 0) 10 g))

  pub line_ends : get_or s q 0 ≡ 10 → (c : Choice) (ls : List Line) (A : ℕ)
      → scan (drop q s) (choosing ls A [] (part_of c)) ≡ scan (drop (q + 1) s) (before (ls ++ line A c ∷ []))
  unfolding step chooses
  line_ends e c ls A =
      byte_is 10 (choosing ls A [] (part_of c)) (omega arith) e ∙ ap (λ (y : Choice). scan (drop (q + 1) s) (before (ls ++ line A y ∷ []))) (whole_part c)

-- ---- A byte between single quotes.

-- A byte of the rest of a text.
pub rest_byte : (s : List ℕ) (q k : ℕ) → get_or (take (length s - q) (drop q s)) k 0 ≡ get_or s (q + k) 0
rest_byte s q k = rw (take_rest s q) (get_or-drop q s k 0)

module _ (s : List ℕ) (q depth : ℕ) (quote : get_or s q 0 ≡ 39) (x : Part) where
  opens_quote : (ls : List Line) (A : ℕ) (os : List Open) → scan (drop q s) (choosing ls A os x) ≡ scan (drop (q + 1) s) (quoting ls A os x)
  unfolding step chooses
  opens_quote ls A os = byte_is s q 39 (choosing ls A os x) (omega arith) quote

  takes_byte : q + 1 < length s → (ls : List Line) (A : ℕ) (os : List Open)
      → scan (drop q s) (choosing ls A os x) ≡ scan (drop (q + 2) s) (unquoting ls A os x (get_or s (q + 1) 0))
  unfolding step
  takes_byte l ls A os =
      let k : q + 1 + 1 ≡ q + 2 = omega arith in
      opens_quote ls A os ∙ one s (q + 1) (quoting ls A os x) l ∙ ap (λ (i : ℕ). scan (drop i s) (unquoting ls A os x (get_or s (q + 1) 0))) k

  pub quote_moves : q + 2 < length s → get_or s (q + 2) 0 ≡ 39 → Moves s depth q x (q + 3) (with_item x (quoted (get_or s (q + 1) 0)))
  unfolding step
  quote_moves l e ls A os d =
      let k : q + 2 + 1 ≡ q + 3 = omega arith in
      takes_byte (omega arith) ls A os ∙ byte_is s (q + 2) 39 (unquoting ls A os x (get_or s (q + 1) 0)) (omega arith) e
      ∙ ap (λ (i : ℕ). scan (drop i s) (choosing ls A os (with_item x (quoted (get_or s (q + 1) 0))))) k

  pub quote_open : q + 2 < length s → (get_or s (q + 2) 0 ≡ 39 → ⊥) → Refuses s depth q x Text
  unfolding step
  quote_open l n ls A os d =
      takes_byte (omega arith) ls A os ∙ one s (q + 2) (unquoting ls A os x (get_or s (q + 1) 0)) l ∙ rw (ne_eqb (get_or s (q + 2) 0) 39 n)

  pub quote_short : length s ≤ q + 2 → Refuses s depth q x Text
  quote_short l ls A os d = go (dec_lt (q + 1) (length s))
    where
      go : Dec (q + 1 < length s) → scan (drop q s) (choosing ls A os x) ≡ refused 15 0
      go (yes m) = takes_byte m ls A os ∙ at_end_law s (q + 2) (unquoting ls A os x (get_or s (q + 1) 0)) l
      go (no n) = opens_quote ls A os ∙ at_end_law s (q + 1) (quoting ls A os x) (omega arith)
