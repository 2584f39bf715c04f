-- Document 02, order 1: "letters numbered by first appearance", in an array of 26 numbers. Assumes nothing.
use Rattle.std.specs.Prelude.{true, cond, List, [], ◌∷◌, ◌++◌, ◌≡◌, ℕ, zero, suc, ◌-◌, eqb, length, get_or, replicate}
use Rattle.notation.specs.Capitals.{number_in}
use Rattle.notation.specs.Text.{among, capital}
use Rattle.letters.specs.declared.Numbering.{Numbering}

-- The array holds the numbers of these letters, which are so many.
pub record Numbers (xs numbers : List ℕ) (count : ℕ) : Type 0 where
  pub counted : count ≡ length xs
  pub size : length numbers ≡ 26
  pub held : (A : ℕ) → capital A ≡ true → get_or numbers (A - 65) 0 ≡ number_in xs A

-- No letter has a number yet.
abbrev pub Blank : List ℕ → Type 0
Blank numbers = numbers ≡ replicate 26 0

-- One letter more: the letters with it, where it is none of them, behind them.
abbrev pub with_letter : List ℕ → ℕ → List ℕ
with_letter xs A = cond (among A xs) xs (xs ++ A ∷ [])

abbrev pub Adds : ℕ → List ℕ → ℕ → List ℕ → ℕ → Type 0
Adds A numbers count numbers' count' = (xs : List ℕ) → Numbers xs numbers count → Numbers (with_letter xs A) numbers' count'

-- What one byte adds: the letters behind a state, byte by byte.
abbrev pub bytes_left : ℕ → ℕ → ℕ
bytes_left zero b = cond (eqb b 39) 2 0
bytes_left (suc k) b = k

abbrev pub letters_with : ℕ → List ℕ → ℕ → List ℕ
letters_with zero xs b = cond (eqb b 39) xs (cond (capital b) (with_letter xs b) xs)
letters_with (suc k) xs b = xs

pub record Passes (b : ℕ) (from : Numbering) (numbers : List ℕ) (to : Numbering) (numbers' : List ℕ) : Type 0 where
  pub skips : to.skip ≡ bytes_left from.skip b
  pub numbered : (xs : List ℕ) → Numbers xs numbers from.count → Numbers (letters_with from.skip xs b) numbers' to.count
