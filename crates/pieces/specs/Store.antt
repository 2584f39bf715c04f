-- How the readers hold the rules of a translation: words for variables 1 to 256, and the number of the last variable, which stops at 257. Assumes nothing.
use Rattle.std.specs.Prelude.{List, ◌≡◌, ℕ, ◌+◌, ◌-◌, ◌≤◌, min, get_or}
use Rattle.grammar.specs.Words.{words}
use Rattle.notation.specs.Emit.{Rules, rules, Made, made}
use Rattle.pieces.specs.declared.Piece.{Piece}

-- A number that stops at 257: "17 the allowance is over 256".
abbrev pub capped : ℕ → ℕ
capped n = min n 257

-- The variable of a capital letter, by an array of 26.
abbrev pub number_held : List ℕ → ℕ → ℕ
number_held numbers A = get_or numbers (A - 65) 0

-- These words and this last variable are those of the rules, as long as the variables are 256 at most.
abbrev pub Stored : Rules → ℕ → List ℕ → Type 0
Stored (rules f n) last ws = (last ≡ capped n) × (n ≤ 256 → ws ≡ words f)

-- The same of the rules after a step, and of the variable that acts as what was read.
abbrev pub StoredMade : Made → ℕ → ℕ → List ℕ → Type 0
StoredMade (made v (rules f n)) variable last ws = (last ≡ capped n) × (n ≤ 256 → (variable ≡ v) × (ws ≡ words f))

-- The numbers of a piece stop at 257.
pub record Few (p : Piece) : Type 0 where
  pub variable_few : p.variable ≤ 257
  pub last_few : p.last ≤ 257
  pub cost_few : p.cost ≤ 257

-- What was read up to p, and nothing more taken: by this variable, up to a position, at some cost more.
abbrev pub moved : Piece → ℕ → ℕ → ℕ → Piece
moved p at variable by = record { at = at; variable = variable; last = p.last; cost = capped (p.cost + by) }

-- What a step makes of the words and of what was read up to p: a piece r that ends at a position, at no cost.
pub record Makes (step : Rules → Made) (at : ℕ) (p : Piece) (ws : List ℕ) (r : Piece) (ws' : List ℕ) : Type 0 where
  pub ends_at : r.at ≡ at
  pub cost_is : r.cost ≡ p.cost
  pub few : Few r
  pub grows : p.last ≤ r.last
  pub stores : (z : Rules) → Stored z p.last ws → StoredMade (step z) r.variable r.last ws'
