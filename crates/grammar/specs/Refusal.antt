-- Document 01, "Who can bring on which number". Assumes nothing.
use Rattle.std.specs.Prelude.{Bool, cond, List, [], ◌∷◌, ℕ, ltb}

-- "A refusal returns its number and a line": what a call makes of what it is handed.
pub data Checked (A : Type 0) : Type 0 where
  refused : ℕ → ℕ → Checked A
  accepted : A → Checked A

-- By the condition of each number at each line: of an order of numbers, each with its line (0 where none is at fault), the first whose
-- condition holds; where none does, what is accepted.
unfoldable pub checked : {A : Type 0} → (ℕ → ℕ → Bool) → List (ℕ × ℕ) → A → Checked A
checked condition [] a = accepted a
checked condition (r ∷ rs) a = cond (condition r.0 r.1) (refused r.0 r.1) (checked condition rs a)

-- The conditions of the numbers from `first` on, beside those of the numbers below it.
abbrev pub from : ℕ → (ℕ → ℕ → Bool) → (ℕ → ℕ → Bool) → ℕ → ℕ → Bool
from first new old number line = cond (ltb number first) (old number line) (new number line)
