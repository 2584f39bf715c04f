-- Document 02, order 1: what the readers of items, rows and choices promise. Assumes nothing.
use Rattle.std.specs.Prelude.{Bool, true, false, cond, ◌||◌, List, Option, Some, None, Result, Ok, Err, ◌≡◌, ℕ, ◌+◌, ◌≤◌, ◌<◌, eqb, length, drop, get_or}
use Rattle.std.proofs.Math.Option.{Option as Maybe, none}
use Rattle.grammar.specs.Numbers.{number_of, line_of}
use Rattle.grammar.specs.Refusal.{refused}
use Rattle.grammar.specs.declared.refusal.Refusal.{Refusal}
use Rattle.notation.specs.Emit.{Rules, Made, item_rules, row_rules, choice_rules}
use Rattle.notation.specs.Scan.{Part, part, with_item, part_of, Open, choosing, scan}
use Rattle.notation.specs.Text.{Item, Row, empty, Choice, Line, capital, item_cost, row_cost, choice_cost}
use Rattle.pieces.specs.Store.{capped, Stored, StoredMade, Few}
use Rattle.pieces.specs.declared.Piece.{Piece}

-- The byte that closes a bracket, where this byte opens one.
abbrev pub closing : ℕ → Option ℕ
closing b = cond (eqb b 40) (Some 41) (cond (eqb b 91) (Some 93) None)

-- "An item is a capital, a byte between single quotes, `%` .., a choice in round brackets, or a choice in square brackets": does one begin with this byte?
abbrev pub begins_item : ℕ → Bool
begins_item b = eqb b 37 || (eqb b 39 || (eqb b 40 || (eqb b 91 || capital b)))

-- Reading on from `at`, where x is what stands in the choice, is reading on from q, where y stands there: in any line, inside open brackets of this depth.
abbrev pub Moves : List ℕ → ℕ → ℕ → Part → ℕ → Part → Type 0
Moves s depth at x q y = (ls : List Line) (A : ℕ) (os : List Open) → length os ≡ depth → scan (drop at s) (choosing ls A os x) ≡ scan (drop q s) (choosing ls A os y)

-- Reading on from there is refused so.
abbrev pub Refuses : List ℕ → ℕ → ℕ → Part → Refusal → Type 0
Refuses s depth at x e = (ls : List Line) (A : ℕ) (os : List Open) → length os ≡ depth → scan (drop at s) (choosing ls A os x) ≡ refused (number_of e) (line_of e)

-- A kind of pieces (document 02: items, rows, choices). By what it stands behind: what has been read of the choice before it, and with it. The rules
-- that are stored for it, and its cost.
pub record Kind : Type 1 where
  pub Of : Type 0
  pub Context : Type 0
  pub before : Context → Part
  pub behind : Context → Of → Part
  pub rules_of : Of → Rules → Made
  pub cost_of : Of → ℕ

-- By the variable of each capital, and E, the variable that always succeeds; the one behind E always fails.
module _ (number : ℕ → ℕ) (E : ℕ) where
  -- An item goes on with a row,
  abbrev pub items : Kind
  items = record { Of = Item; Context = Part; before = λ x. x; behind = with_item; rules_of = item_rules number E (E + 1); cost_of = item_cost }

  -- a row begins where none of its items is read, behind other rows perhaps,
  abbrev pub rows : Kind
  rows = record { Of = Row; Context = Maybe Choice; before = λ o. part o empty; behind = part; rules_of = row_rules number E (E + 1); cost_of = row_cost }

  -- a choice where nothing of it is.
  abbrev pub choices : Kind
  choices =
      record { Of = Choice; Context = Unit {0}; before = λ u. part none empty; behind = λ u. part_of; rules_of = choice_rules number E (E + 1); cost_of = choice_cost }

-- A piece of this kind was found from one position to another, and its rules were put with the words.
pub record Finds (k : Kind) (s : List ℕ) (depth : ℕ) (from : Piece) (ws : List ℕ) (p : Piece) (ws' : List ℕ) : Type 0 where
  pub piece : k.Of
  pub low : from.at ≤ p.at
  pub high : p.at ≤ length s
  pub moves : (x : k.Context) → Moves s depth from.at (k.before x) p.at (k.behind x piece)
  pub few : Few p
  pub cost_is : p.cost ≡ capped (from.cost + k.cost_of piece)
  pub grows : from.last ≤ p.last
  pub stores : (z : Rules) → Stored z from.last ws → StoredMade (k.rules_of piece z) p.variable p.last ws'

-- What a reader of pieces of this kind promises: one that ends as Ends says, or a refusal.
abbrev pub Reads : (k : Kind) → List ℕ → ℕ → Piece → List ℕ → (Piece → Type 0) → Result Piece Refusal → List ℕ → Type 0
Reads k s depth from ws Ends (Ok p) ws' = Finds k s depth from ws p ws' × Ends p
Reads k s depth from ws Ends (Err e) ws' = (x : k.Context) → Refuses s depth from.at (k.before x) e

-- An item takes a byte or more;
abbrev pub EndsItem : Piece → Piece → Type 0
EndsItem from p = from.at < p.at

-- a row ends where no item begins,
abbrev pub EndsRow : List ℕ → Piece → Type 0
EndsRow s p = begins_item (get_or s p.at 0) ≡ false

-- a choice where no `/` stands either.
abbrev pub EndsChoice : List ℕ → Piece → Type 0
EndsChoice s p = EndsRow s p × (get_or s p.at 0 ≡ 47 → ⊥)

-- What the readers ask for.
pub record Ready (s : List ℕ) (depth : ℕ) (from : Piece) : Type 0 where
  pub inside : from.at ≤ length s
  pub shallow : depth ≤ 16
  pub few : Few from

-- What the reader of an item that is no bracket asks for.
pub record LeafReady (s : List ℕ) (from : Piece) : Type 0 where
  pub few : Few from
  pub begins : begins_item (get_or s from.at 0) ≡ true
  pub no_bracket : closing (get_or s from.at 0) ≡ None
