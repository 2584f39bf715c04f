-- Small facts: letters of joined lists, and letters without a line. Assumes nothing.
use mathlib.Core.Bool.{Bool, true, false, cond, ◌||◌, or-true, or_assoc, true≢false}
use mathlib.Core.List.{List, [], ◌∷◌, ◌++◌}
use mathlib.Core.Option.{Option, none, some}
use mathlib.Core.Path.{◌≡◌, refl, sym, ap, ◌∙◌}
use Prim.Native.Nat.{ℕ}
use lib.Dec.{eqb}
use borrow.Author.Tests.{eq-eqb}
use Rattle.notation.specs.Text.{Choice, among}

-- A letter that has no line has neither this one nor one behind it.
pub no_line : (t : Bool) (c : Choice) (m : Option Choice) → cond t (some c) m ≡ none → (t ≡ false) × (m ≡ none)
no_line true c m e = absurd (true≢false (cc))
no_line false c m e = (refl, e)

pub among_append : (A : ℕ) (xs ys : List ℕ) → among A (xs ++ ys) ≡ (among A xs || among A ys)
among_append A [] ys = refl
among_append A (x ∷ xs) ys = ap (λ (t : Bool). eqb A x || t) (among_append A xs ys) ∙ sym (or_assoc (eqb A x) (among A xs) (among A ys))

pub among_first : (A : ℕ) (xs : List ℕ) → among A (A ∷ xs) ≡ true
among_first A xs = rw (eq-eqb A A refl)

-- Each letter of the list is known.
abbrev pub AllKnown : (ℕ → Type 0) → List ℕ → Type 0
AllKnown Known As = (A : ℕ) → among A As ≡ true → Known A

pub known_left : (Known : ℕ → Type 0) (xs ys : List ℕ) → AllKnown Known (xs ++ ys) → AllKnown Known xs
known_left Known xs ys h A a = h A (rw (among_append A xs ys, a))

pub known_right : (Known : ℕ → Type 0) (xs ys : List ℕ) → AllKnown Known (xs ++ ys) → AllKnown Known ys
known_right Known xs ys h A a = h A (rw (among_append A xs ys, a) (or-true (among A xs)))
