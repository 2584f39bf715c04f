-- Document 02, order 1: the texts of the shorthand. Assumes nothing.
use Rattle.std.specs.Prelude.{Bool, cond, ◌&&◌, ◌||◌, List, [], ◌∷◌, ◌++◌, ℕ, suc, ◌+◌, max, leb, eqb, length}
use Rattle.std.proofs.Math.Option.{Option, none, some}

-- "a choice in round brackets, or a choice in square brackets"
pub data Bracket : Type 0 where
  round square : Bracket

mutual
  -- "An item is a capital, a byte between single quotes, `%` (always fails), a choice in round brackets, or a choice in square brackets".
  pub data Item : Type 0 where
    letter : ℕ → Item
    quoted : ℕ → Item
    fails : Item
    inside : Bracket → Choice → Item

  -- "a row of items, perhaps none"
  pub data Row : Type 0 where
    empty : Row
    next : Row → Item → Row

  -- "alternatives parted by `/` .. make up a choice; each is a row of items"
  pub data Choice : Type 0 where
    only : Row → Choice
    or : Choice → Row → Choice

-- "a capital letter (65-90), `=`, alternatives parted by `/`, and byte 10"
pub data Line : Type 0 where
  line : ℕ → Choice → Line

-- ---- How a text is written.

-- The byte that opens a bracket, and the one that closes it.
abbrev pub opener : Bracket → ℕ
opener round = 40
opener square = 91

abbrev pub closer : Bracket → ℕ
closer round = 41
closer square = 93

-- The bytes of an item, a row and a choice.
unfoldable mutual
  pub item_text : Item → List ℕ
  item_text (letter A) = A ∷ []
  item_text (quoted b) = 39 ∷ b ∷ 39 ∷ []
  item_text fails = 37 ∷ []
  item_text (inside k c) = opener k ∷ choice_text c ++ closer k ∷ []

  pub row_text : Row → List ℕ
  row_text empty = []
  row_text (next r i) = row_text r ++ item_text i

  pub choice_text : Choice → List ℕ
  choice_text (only r) = row_text r
  choice_text (or c r) = choice_text c ++ 47 ∷ row_text r

-- The bytes of lines.
unfoldable pub lines_text : List Line → List ℕ
lines_text [] = []
lines_text (line A c ∷ ls) = A ∷ 61 ∷ choice_text c ++ 10 ∷ lines_text ls

-- ---- "letters numbered by first appearance"

-- The letters of a text, left and right of `=`, in their order, each as often as it stands there.
unfoldable mutual
  pub item_letters : Item → List ℕ
  item_letters (letter A) = A ∷ []
  item_letters (quoted b) = []
  item_letters fails = []
  item_letters (inside k c) = choice_letters c

  pub row_letters : Row → List ℕ
  row_letters empty = []
  row_letters (next r i) = row_letters r ++ item_letters i

  pub choice_letters : Choice → List ℕ
  choice_letters (only r) = row_letters r
  choice_letters (or c r) = choice_letters c ++ row_letters r

-- Those of all lines.
unfoldable pub letters_of : List Line → List ℕ
letters_of [] = []
letters_of (line A c ∷ ls) = A ∷ choice_letters c ++ letters_of ls

-- Is A in the list?
abbrev pub among : ℕ → List ℕ → Bool
among A [] = Bool.false
among A (B ∷ Bs) = eqb A B || among A Bs

-- Each letter once, where it appears first; `seen` has those before.
unfoldable pub firsts : List ℕ → List ℕ → List ℕ
firsts seen [] = []
firsts seen (A ∷ As) = cond (among A seen) (firsts seen As) (A ∷ firsts (A ∷ seen) As)

-- The letters of the lines by first appearance, each once.
unfoldable pub letters : List Line → List ℕ
letters ls = firsts [] (letters_of ls)

-- The rank of A in a list, from 1; behind its end where it is not there.
unfoldable pub rank : List ℕ → ℕ → ℕ
rank [] A = 1
rank (B ∷ Bs) A = cond (eqb A B) 1 (suc (rank Bs A))

-- The variable of a letter.
abbrev pub number_of : List Line → ℕ → ℕ
number_of ls A = rank (letters ls) A

-- ---- "the distinct letters plus 2, 3 for each item at any depth, 1 for each `/`"

-- What an item, a row and a choice add.
unfoldable mutual
  pub item_cost : Item → ℕ
  item_cost (letter A) = 3
  item_cost (quoted b) = 3
  item_cost fails = 3
  item_cost (inside k c) = 3 + choice_cost c

  pub row_cost : Row → ℕ
  row_cost empty = 0
  row_cost (next r i) = row_cost r + item_cost i

  pub choice_cost : Choice → ℕ
  choice_cost (only r) = row_cost r
  choice_cost (or c r) = choice_cost c + 1 + row_cost r

-- What all lines add.
unfoldable pub cost : List Line → ℕ
cost [] = 0
cost (line A c ∷ ls) = choice_cost c + cost ls

-- The allowance: how many variables a sheet of the lines may have.
abbrev pub allowance : List Line → ℕ
allowance ls = length (letters ls) + 2 + cost ls

-- ---- "Brackets nest to 16."

-- How deep brackets nest in an item, a row and a choice.
unfoldable mutual
  pub item_depth : Item → ℕ
  item_depth (letter A) = 0
  item_depth (quoted b) = 0
  item_depth fails = 0
  item_depth (inside k c) = 1 + choice_depth c

  pub row_depth : Row → ℕ
  row_depth empty = 0
  row_depth (next r i) = max (row_depth r) (item_depth i)

  pub choice_depth : Choice → ℕ
  choice_depth (only r) = row_depth r
  choice_depth (or c r) = max (choice_depth c) (row_depth r)

-- The line of a letter, if it has one.
unfoldable pub line_of : List Line → ℕ → Option Choice
line_of [] A = none
line_of (line B c ∷ ls) A = cond (eqb A B) (some c) (line_of ls A)

-- A capital letter.
abbrev pub capital : ℕ → Bool
capital b = leb 65 b && leb b 90
