-- The length of the output is within the slice. Assumes nothing.
use mathlib.Core.Bool.{Bool, true, false}
use mathlib.Core.List.{List}
use mathlib.Core.Path.{ap, ◌∙◌}
use Prim.Native.Nat.{ℕ, ◌≤◌}
use native.Mathlib.Omega.{arith}
use lib.Dec.{ltb}
use lib.ListN.{length, drop, length-append}
use Rattle.output.specs.Output.{PutsWhere, OutputPromise}

pub output_within : (s input out out' : List ℕ) (r : ℕ) → OutputPromise s input out out' r → r ≤ length out'
output_within s input out out' r promise = by_test (ltb (length out) 50209) promise
  where
    by_test : (t : Bool) → PutsWhere t s input out out' r → r ≤ length out'
    by_test true m = let e = m.0 in omega arith
    by_test false m =
        let e = m.2 in
        let n = ap length m.3 ∙ length-append m.0 (drop (length m.0) out) in
        omega arith
