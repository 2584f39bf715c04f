-- What the steps of reading a field do. Assumes nothing.
use Rattle.std.specs.Prelude.{cond, ◌&&◌, ℕ, ◌-◌, leb, Option, Some, None}
use Rattle.std.proofs.Math.Option as Math

-- An answer of the program as the definitions have it.
abbrev pub held : {A : Type 0} → Option A → Math.Option A
held (Some x) = Math.some x
held None = Math.none

-- The digit that a byte shows, if it does.
abbrev pub digit_of : ℕ → Option ℕ
digit_of b = cond (leb 48 b && leb b 57) (Some (b - 48)) None

-- The same of a byte that may come first: no number but zero begins with `0`.
abbrev pub first_digit_of : ℕ → Option ℕ
first_digit_of b = cond (leb 49 b && leb b 57) (Some (b - 48)) None
