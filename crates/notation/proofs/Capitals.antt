-- The capitals outside quotes are the letters of the lines. Assumes nothing.
use mathlib.Core.Bool.{true}
use mathlib.Core.List.{List, [], ◌∷◌, ◌++◌, append_assoc}
use mathlib.Core.Path.{◌≡◌, refl, sym, ap, ◌∙◌}
use Prim.Native.Nat.{ℕ}
use native.Mathlib.Omega.{arith}
use borrow.Author.Tests.{ne_eqb}
use Rattle.grammar.proofs.Fitting.{within_bounds}
use Rattle.notation.specs.Text.{Bracket, round, square, opener, closer, Item, letter, quoted, fails, inside, Row, empty, next, Choice, only, or, Line, line, item_text, row_text, choice_text, lines_text, item_letters, row_letters, choice_letters, letters_of, capital}
use Rattle.notation.specs.Form.{ItemForm, RowForm, ChoiceForm, EachForm}
use Rattle.notation.specs.Capitals.{capitals_after, capitals}

pub at_capital : (b : ℕ) (s : List ℕ) → capital b ≡ true → capitals (b ∷ s) ≡ b ∷ capitals s
unfolding capitals_after
at_capital b s e = let n = within_bounds 65 90 b e in rw (ne_eqb b 39 (λ w. omega arith), e)

at_opener : (k : Bracket) (s : List ℕ) → capitals (opener k ∷ s) ≡ capitals s
unfolding capitals_after
at_opener round s = refl
at_opener square s = refl

at_closer : (k : Bracket) (s : List ℕ) → capitals (closer k ∷ s) ≡ capitals s
unfolding capitals_after
at_closer round s = refl
at_closer square s = refl

mutual
  unfolding capitals_after item_text row_text choice_text item_letters row_letters choice_letters

  item_capitals : (i : Item) → ItemForm i → (s : List ℕ) → capitals (item_text i ++ s) ≡ item_letters i ++ capitals s
  item_capitals (letter A) f s = at_capital A s f
  item_capitals (quoted b) f s = refl
  item_capitals fails f s = refl
  item_capitals (inside k c) f s =
      at_opener k ((choice_text c ++ closer k ∷ []) ++ s) ∙ ap capitals (append_assoc (choice_text c) (closer k ∷ []) s) ∙ choice_capitals c f (closer k ∷ s)
      ∙ ap (λ (w : List ℕ). choice_letters c ++ w) (at_closer k s)

  row_capitals : (r : Row) → RowForm r → (s : List ℕ) → capitals (row_text r ++ s) ≡ row_letters r ++ capitals s
  row_capitals empty f s = refl
  row_capitals (next r i) f s =
      ap capitals (append_assoc (row_text r) (item_text i) s) ∙ row_capitals r f.0 (item_text i ++ s)
      ∙ ap (λ (w : List ℕ). row_letters r ++ w) (item_capitals i f.1 s) ∙ sym (append_assoc (row_letters r) (item_letters i) (capitals s))

  choice_capitals : (c : Choice) → ChoiceForm c → (s : List ℕ) → capitals (choice_text c ++ s) ≡ choice_letters c ++ capitals s
  choice_capitals (only r) f s = row_capitals r f s
  choice_capitals (or c r) f s =
      ap capitals (append_assoc (choice_text c) (47 ∷ row_text r) s) ∙ choice_capitals c f.0 (47 ∷ row_text r ++ s)
      ∙ ap (λ (w : List ℕ). choice_letters c ++ w) (row_capitals r f.1 s) ∙ sym (append_assoc (choice_letters c) (row_letters r) (capitals s))

-- The letters of lines of the form, by the bytes of their text.
pub lines_capitals : (ls : List Line) → EachForm ls → capitals (lines_text ls) ≡ letters_of ls
unfolding capitals_after lines_text letters_of
lines_capitals [] f = refl
lines_capitals (line A c ∷ ls) f =
    at_capital A (61 ∷ choice_text c ++ 10 ∷ lines_text ls) f.0
    ∙ ap (λ (w : List ℕ). A ∷ w) (choice_capitals c f.1 (10 ∷ lines_text ls) ∙ ap (λ (w : List ℕ). choice_letters c ++ w) (lines_capitals ls f.3))
