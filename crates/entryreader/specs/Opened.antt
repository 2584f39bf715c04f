-- What the exported call for the opening that already loops hands over. Assumes nothing.
use Rattle.std.specs.Prelude.{List, [], ◌∷◌, ◌≡◌, ℕ, Result, Option as Maybe}
use Rattle.std.proofs.Math.Option.{Option, none, some}
use Rattle.schema.specs.Exported.{returned, reported}
use Rattle.opening.specs.Opening.{told, OpeningPromise}
use Rattle.grammar.specs.declared.refusal.Refusal.{Refusal}

-- The two numbers of its answer: 1 and the least number of bytes, or 0 and 0 where there is none.
abbrev pub opening_numbers : Option ℕ → List ℕ
opening_numbers (some m) = 1 ∷ m ∷ []
opening_numbers none = 0 ∷ 0 ∷ []

-- The call's promise, with its answer in these numbers.
pub record OpeningNumbers (sheet input table table' work work' answer answer' : List ℕ) (r : ℕ) : Type 0 where
  pub found : Result (Maybe ℕ) Refusal
  pub promise : OpeningPromise sheet input table table' work work' found
  pub returns : r ≡ returned (told found)
  pub reports : answer' ≡ reported opening_numbers answer (told found)
