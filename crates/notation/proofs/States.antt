-- Where the reading of a text stands: the bytes that led there, and their form. Assumes nothing.
use mathlib.Core.Bool.{true, false}
use mathlib.Core.List.{List, [], ◌∷◌, ◌++◌, append_assoc}
use mathlib.Core.Option.{none, some}
use mathlib.Core.Path.{◌≡◌, refl}
use Prim.Native.Nat.{ℕ, ◌+◌, ◌≤◌}
use native.Mathlib.Omega.{arith}
use lib.ListN.{length}
use Rattle.notation.specs.Text.{opener, Item, Choice, Line, item_text, row_text, choice_text, lines_text, item_depth, row_depth, choice_depth, capital}
use Rattle.notation.specs.Form.{ItemForm, ChoiceForm, EachForm, Once}
use Rattle.notation.specs.Scan.{Part, part, with_item, whole, Open, opened, State, before, named, choosing, quoting, unquoting, defined}

-- ---- A choice with one more item.

pub with_text : (x : Part) (i : Item) → choice_text (whole (with_item x i)) ≡ choice_text (whole x) ++ item_text i
unfolding choice_text row_text
with_text (part none r) i = refl
with_text (part (some c) r) i = simp append_assoc

pub with_form : (x : Part) (i : Item) → ChoiceForm (whole x) → ItemForm i → ChoiceForm (whole (with_item x i))
with_form (part none r) i f g = (f, g)
with_form (part (some c) r) i f g = (f.0, (f.1, g))

pub with_depth : (x : Part) (i : Item) (d : ℕ) → choice_depth (whole x) + d ≤ 16 → item_depth i + d ≤ 16 → choice_depth (whole (with_item x i)) + d ≤ 16
unfolding choice_depth row_depth
with_depth (part none r) i d f g = omega arith
with_depth (part (some c) r) i d f g = omega arith

-- ---- The bytes up to a state.

-- What stands before each open bracket, and the bracket.
abbrev pub opens_text : List Open → List ℕ
opens_text [] = []
opens_text (opened k x ∷ os) = opens_text os ++ choice_text (whole x) ++ opener k ∷ []

abbrev pub line_text : List Line → ℕ → List Open → Part → List ℕ
line_text ls A os x = lines_text ls ++ A ∷ 61 ∷ opens_text os ++ choice_text (whole x)

abbrev pub state_text : State → List ℕ
state_text (before ls) = lines_text ls
state_text (named ls A) = lines_text ls ++ A ∷ []
state_text (choosing ls A os x) = line_text ls A os x
state_text (quoting ls A os x) = line_text ls A os x ++ 39 ∷ []
state_text (unquoting ls A os x q) = line_text ls A os x ++ 39 ∷ q ∷ []

-- ---- The form of what was read up to a state.

-- A choice inside d brackets: of the form, and nested to 16 with them.
pub record Inside (d : ℕ) (c : Choice) : Type 0 where
  pub form : ChoiceForm c
  pub shallow : choice_depth c + d ≤ 16

abbrev pub OpensForm : List Open → Type 0
OpensForm [] = Unit {0}
OpensForm (opened k x ∷ os) = Inside (length os) (whole x) × OpensForm os

-- The lines so far and the letter of the line that is being read.
abbrev pub NamedForm : List Line → ℕ → Type 0
NamedForm ls A = EachForm ls × Once ls × (capital A ≡ true) × (defined ls A ≡ false)

-- The same inside the line's choice.
pub record LineForm (ls : List Line) (A : ℕ) (os : List Open) (x : Part) : Type 0 where
  pub name : NamedForm ls A
  pub around : OpensForm os
  pub here : Inside (length os) (whole x)

abbrev pub StateForm : State → Type 0
StateForm (before ls) = EachForm ls × Once ls
StateForm (named ls A) = NamedForm ls A
StateForm (choosing ls A os x) = LineForm ls A os x
StateForm (quoting ls A os x) = LineForm ls A os x
StateForm (unquoting ls A os x q) = LineForm ls A os x × (q ≤ 255)
