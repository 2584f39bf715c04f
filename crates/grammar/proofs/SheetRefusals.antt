-- A sheet is refused with a number exactly under that number's condition, where no condition that comes earlier in the order holds. Assumes nothing.
use mathlib.Core.Path.{◌≡◌}
use mathlib.Core.List.{List}
use mathlib.Core.Logic.{◌↔◌}
use Prim.Native.Nat.{ℕ, zero, suc, ◌-◌, ◌<◌}
use native.Mathlib.Omega.{arith}
use Rattle.grammar.specs.Refusal.{refused}
use Rattle.grammar.specs.Sheet.{lines, grammar_of, condition, rule_order, sheet_order, sheet}
use Rattle.grammar.specs.Order.{FirstHolds}
use Rattle.grammar.proofs.Refusals.{Each, refused_exactly}

-- The refusals of a sheet, both ways.
pub sheet_refused : (s : List ℕ) (x l : ℕ) → sheet s ≡ refused x l ↔ FirstHolds (condition s) (sheet_order s) x l
unfolding sheet
sheet_refused s x l = refused_exactly (condition s) (sheet_order s) (grammar_of s) x l

-- Their numbers are below 6.
rule_numbers_law : (n k : ℕ) → Each (λ x. x < 6) (rule_order n k)
unfolding rule_order
rule_numbers_law n zero = tt
rule_numbers_law n (suc k) = (omega arith, (omega arith, (omega arith, rule_numbers_law (suc n) k)))

pub sheet_numbers_law : (s : List ℕ) → Each (λ x. x < 6) (sheet_order s)
unfolding sheet_order
sheet_numbers_law s = (omega arith, (omega arith, (omega arith, rule_numbers_law 2 (lines s - 1))))
