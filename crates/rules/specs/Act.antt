-- What each case of the code's answer says of a rule at a position. Assumes nothing.
use Rattle.std.specs.Prelude.{cond, ℕ, ◌+◌, eqb, Option, Some, None}
use Rattle.schema.specs.Derivation.{Act as Does, gives, stops, calls, success, failure, missing}
use Rattle.rules.specs.declared.Act.{Act}
use Rattle.rules.specs.declared.Act.TheVariants.{Success, Failure, Missing, Calls}

-- "success ending at p", "failure", "No rule: missing", "the source's A -> B(C,D)"
abbrev pub told : Act → Does
told (Success q) = gives (success q)
told Failure = gives failure
told Missing = stops missing
told (Calls B C D) = calls B C D

-- "success ending at p + 1 on a match, else failure", and failure where nothing is seen.
abbrev pub by_seen : ℕ → ℕ → Option ℕ → Does
by_seen p wanted None = gives failure
by_seen p wanted (Some b) = cond (eqb b wanted) (gives (success (p + 1))) (gives failure)
