-- Document 01, "Who can bring on which number": the first condition in an order that holds. Assumes nothing.
use Rattle.std.specs.Prelude.{Bool, true, false, List, [], ◌∷◌, ◌++◌, ◌≡◌, ℕ}

-- The condition of each number at each line.
module _ (condition : ℕ → ℕ → Bool) where
  -- None of the conditions of these numbers and lines holds.
  abbrev pub NoneHolds : List (ℕ × ℕ) → Type 0
  NoneHolds [] = Unit {0}
  NoneHolds (r ∷ rs) = (condition r.0 r.1 ≡ false) × NoneHolds rs

  -- In the order of these numbers and lines, the first condition that holds is that of the number x at the line l.
  pub record FirstHolds (rs : List (ℕ × ℕ)) (x l : ℕ) : Type 0 where
    pub before : List (ℕ × ℕ)
    pub after : List (ℕ × ℕ)
    pub order : rs ≡ before ++ (x, l) ∷ after
    pub holds : condition x l ≡ true
    pub none_before : NoneHolds before
