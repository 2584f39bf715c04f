-- What the steps of writing a field do. Assumes nothing.
use Rattle.std.specs.Prelude.{cond, ℕ, ◌+◌, ◌%◌, eqb}

-- One column left of the last, where x is what is left of the number.
abbrev pub leading_byte : ℕ → ℕ
leading_byte x = cond (eqb x 0) 32 (48 + x % 10)
