-- The codes of an outcome, in a cell and in a verdict. Assumes nothing.
use mathlib.Core.Bool.{Bool, true, false, cond}
use mathlib.Core.Logic.{◌≢◌}
use Prim.Native.Nat.{ℕ, ◌≤◌}
use native.Mathlib.Omega.{arith}
use lib.Dec.{eqb}
use Rattle.schema.specs.Derivation.{success, failure, missing, Outcome, result, stopped, loop}
use Rattle.schema.specs.Table.{code}
use Rattle.schema.specs.Verdict.{verdict_code}

-- The code of an outcome is no blank.
pub code_full : (o : Outcome) → code o ≢ 0
code_full (result (success q)) e = omega arith
code_full (result failure) e = omega arith
code_full (stopped missing) e = omega arith
code_full loop e = omega arith

-- A verdict's code is at most 5, and so not that of a refusal.
pub verdict_code_most : (n : ℕ) (o : Outcome) → verdict_code n o ≤ 5
verdict_code_most n (result (success q)) = by_test (eqb q n)
  where
    by_test : (t : Bool) → cond t 0 5 ≤ 5
    by_test true = omega arith
    by_test false = omega arith
verdict_code_most n (result failure) = omega arith
verdict_code_most n (stopped missing) = omega arith
verdict_code_most n loop = omega arith
