-- The exported shorthand's number. Assumes nothing.
use mathlib.Core.List.{List}
use mathlib.Core.Logic.{◌↔◌}
use mathlib.Core.Path.{◌≡◌}
use Prim.Native.Nat.{ℕ, ◌+◌}
use native.Mathlib.Omega.{arith}
use lib.ListN.{length}
use Rattle.schema.specs.Exported.{Fits}
use Rattle.notation.specs.Judged.{TextRefuses}
use Rattle.shorthand.specs.Promise.{told, CompilePromise}
use Rattle.std.specs.Prelude.{Result}
use Rattle.grammar.specs.declared.refusal.Refusal.{Refusal}
use Rattle.shorthand.proofs.Promised.{refused_exactly, refusal_most, length_most}
use Rattle.reports.proofs.Fitting.{fits_each}
use Rattle.entryreader.specs.Codes.{ShorthandNumbers}
use Rattle.entryreader.proofs.Demand1.{returned_refused}

-- The numbers of an answer fit 32 bits.
pub compiled_fits : (s out out' : List ℕ) (r : Result ℕ Refusal) → CompilePromise s out out' r → Fits (λ n. n) (told r)
compiled_fits s out out' r promise =
    fits_each (λ n. n) (told r) (λ x l e. let k = refusal_most s out out' r promise x l e in omega arith)
    (λ n e. let k = length_most s out out' r promise n e in omega arith)

-- 100 plus x exactly under the condition of x, at some line.
pub shorthand_refused : (s out out' answer answer' : List ℕ) (r : ℕ) → ShorthandNumbers s out out' answer answer' r
    → (x : ℕ) → (r ≡ 100 + x) ↔ ((l : ℕ) × TextRefuses s (length out) x l)
shorthand_refused s out out' answer answer' r p =
    returned_refused (told p.found) (TextRefuses s (length out)) (refused_exactly s out out' p.found p.promise) p.returns
