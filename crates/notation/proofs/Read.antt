-- A text that is written of lines of the form is read as these lines. Assumes nothing.
use mathlib.Core.Bool.{true, false}
use mathlib.Core.List.{List, [], ◌∷◌, ◌++◌, append_assoc, append-nil}
use mathlib.Core.Option.{Option, none, some}
use mathlib.Core.Path.{◌≡◌, refl, sym, ap, ◌∙◌}
use Prim.Native.Nat.{ℕ, ◌+◌, ◌≤◌}
use native.Mathlib.Omega.{arith}
use lib.Dec.{eqb}
use lib.ListN.{length}
use borrow.Author.Tests.{eqb-false, ne_eqb}
use Rattle.grammar.specs.Refusal.{accepted}
use Rattle.notation.specs.Text.{Bracket, round, square, opener, closer, Item, letter, quoted, fails, inside, Row, empty, next, Choice, only, or, Line, line, item_text, row_text, choice_text, lines_text, item_depth, row_depth, choice_depth, line_of, capital}
use Rattle.notation.specs.Form.{ItemForm, RowForm, ChoiceForm, EachForm, Once, LinesForm}
use Rattle.notation.specs.Scan.{Part, part, with_item, whole, part_of, Open, opened, State, before, choosing, goes, defined, chooses, step, finish, after, scan, lines_of}
use Rattle.notation.proofs.Small.{no_line}
use Rattle.notation.proofs.OneMore.{defined_more}

pub whole_part : (c : Choice) → whole (part_of c) ≡ c
whole_part (only r) = refl
whole_part (or c r) = refl

letter_step : (A b : ℕ) (ls : List Line) (os : List Open) (x : Part) → capital b ≡ true → chooses ls A os x b ≡ goes (choosing ls A os (with_item x (letter b)))
unfolding chooses
letter_step A b ls os x e = rw e refl

open_step : (k : Bracket) (A : ℕ) (ls : List Line) (os : List Open) (x : Part) → (length os ≡ 16 → ⊥)
    → chooses ls A os x (opener k) ≡ goes (choosing ls A (opened k x ∷ os) (part none empty))
unfolding chooses
open_step round A ls os x n = rw (ne_eqb (length os) 16 n) refl
open_step square A ls os x n = rw (ne_eqb (length os) 16 n) refl

close_step : (k : Bracket) (A : ℕ) (ls : List Line) (os : List Open) (x y : Part)
    → chooses ls A (opened k x ∷ os) y (closer k) ≡ goes (choosing ls A os (with_item x (inside k (whole y))))
unfolding chooses
close_step round A ls os x y = refl
close_step square A ls os x y = refl

-- One byte of a choice that goes on.
byte_goes : (b A : ℕ) (s : List ℕ) (ls : List Line) (os : List Open) (x : Part) (z : State) → chooses ls A os x b ≡ goes z
    → scan (b ∷ s) (choosing ls A os x) ≡ scan s z
unfolding scan step
byte_goes b A s ls os x z e = ap (λ w. after w (λ y. scan s y)) e

module _ (ls : List Line) (A : ℕ) where
  mutual
    unfolding item_text row_text choice_text item_depth row_depth choice_depth scan step chooses

    item_read : (i : Item) → ItemForm i → (rest : List ℕ) (os : List Open) (x : Part) → length os + item_depth i ≤ 16
        → scan (item_text i ++ rest) (choosing ls A os x) ≡ scan rest (choosing ls A os (with_item x i))
    item_read (letter B) f rest os x d = byte_goes B A rest ls os x _ (letter_step A B ls os x f)
    item_read (quoted b) f rest os x d = refl
    item_read fails f rest os x d = refl
    item_read (inside k c) f rest os x d =
        ap (λ w. scan (opener k ∷ w) (choosing ls A os x)) (append_assoc (choice_text c) (closer k ∷ []) rest)
        ∙ byte_goes (opener k) A (choice_text c ++ closer k ∷ rest) ls os x _ (open_step k A ls os x (λ e. omega arith))
        ∙ choice_read c f (closer k ∷ rest) (opened k x ∷ os) (omega arith)
        ∙ byte_goes (closer k) A rest ls (opened k x ∷ os) (part_of c) _ (close_step k A ls os x (part_of c))
        ∙ ap (λ w. scan rest (choosing ls A os (with_item x (inside k w)))) (whole_part c)

    row_read : (r : Row) → RowForm r → (rest : List ℕ) (os : List Open) (o : Option Choice) → length os + row_depth r ≤ 16
        → scan (row_text r ++ rest) (choosing ls A os (part o empty)) ≡ scan rest (choosing ls A os (part o r))
    row_read empty f rest os o d = refl
    row_read (next r i) f rest os o d =
        ap (λ w. scan w (choosing ls A os (part o empty))) (append_assoc (row_text r) (item_text i) rest)
        ∙ row_read r f.0 (item_text i ++ rest) os o (omega arith)
        ∙ item_read i f.1 rest os (part o r) (omega arith)

    choice_read : (c : Choice) → ChoiceForm c → (rest : List ℕ) (os : List Open) → length os + choice_depth c ≤ 16
        → scan (choice_text c ++ rest) (choosing ls A os (part none empty)) ≡ scan rest (choosing ls A os (part_of c))
    choice_read (only r) f rest os d = row_read r f rest os none d
    choice_read (or c r) f rest os d =
        ap (λ w. scan w (choosing ls A os (part none empty))) (append_assoc (choice_text c) (47 ∷ row_text r) rest)
        ∙ choice_read c f.0 (47 ∷ row_text r ++ rest) os (omega arith)
        ∙ byte_goes 47 A (row_text r ++ rest) ls os (part_of c) _ refl
        ∙ ap (λ w. scan (row_text r ++ rest) (choosing ls A os (part (some w) empty))) (whole_part c)
        ∙ row_read r f.1 rest os (some c) (omega arith)

ends_line : (ms : List Line) (A : ℕ) (c : Choice) (rest : List ℕ) → scan (10 ∷ rest) (choosing ms A [] (part_of c)) ≡ scan rest (before (ms ++ line A c ∷ []))
unfolding scan step chooses
ends_line ms A c rest = ap (λ w. scan rest (before (ms ++ line A w ∷ []))) (whole_part c)

line_read : (ms : List Line) (A : ℕ) (c : Choice) (rest : List ℕ) → capital A ≡ true → defined ms A ≡ false → ChoiceForm c → choice_depth c ≤ 16
    → scan (A ∷ 61 ∷ choice_text c ++ 10 ∷ rest) (before ms) ≡ scan rest (before (ms ++ line A c ∷ []))
unfolding scan step
line_read ms A c rest a b f d = rw (a, b) (choice_read ms A c f (10 ∷ rest) [] (omega arith) ∙ ends_line ms A c rest)

-- ---- Lines behind others.

-- None of the lines ls has the letter of one of ms.
abbrev Apart : List Line → List Line → Type 0
Apart ms [] = Unit {0}
Apart ms (line A c ∷ ls) = (defined ms A ≡ false) × Apart ms ls

apart_none : (ls : List Line) → Apart [] ls
apart_none [] = tt
apart_none (line A c ∷ ls) = (refl, apart_none ls)

apart_more : (ms ls : List Line) (A : ℕ) (c : Choice) → line_of ls A ≡ none → Apart ms ls → Apart (ms ++ line A c ∷ []) ls
unfolding line_of
apart_more ms [] A c e h = tt
apart_more ms (line B d ∷ ls) A c e h =
    let n = no_line (eqb A B) d (line_of ls A) e in
    (defined_more ms A B c h.0 (λ z. eqb-false A B n.0 (sym z)), apart_more ms ls A c n.1 h.1)

lines_behind : (ms ls : List Line) → EachForm ls → Once ls → Apart ms ls → scan (lines_text ls) (before ms) ≡ finish (before (ms ++ ls))
unfolding lines_text scan
lines_behind ms [] f o h = ap (λ w. finish (before w)) (sym (append-nil ms))
lines_behind ms (line A c ∷ ls) f o h =
    line_read ms A c (lines_text ls) f.0 h.0 f.1 f.2
    ∙ lines_behind (ms ++ line A c ∷ []) ls f.3 o.1 (apart_more ms ls A c o.0 h.1)
    ∙ ap (λ w. finish (before w)) (append_assoc ms (line A c ∷ []) ls)

finish_some : (ls : List Line) → (ls ≡ [] → ⊥) → finish (before ls) ≡ accepted ls
finish_some [] n = absurd (n refl)
finish_some (l ∷ ls) n = refl

-- A text that is written of lines of the form is read as these lines.
pub lines_read : (ls : List Line) → LinesForm ls → lines_of (lines_text ls) ≡ accepted ls
lines_read ls f = lines_behind [] ls f.each_line f.once (apart_none ls) ∙ finish_some ls f.some_line
