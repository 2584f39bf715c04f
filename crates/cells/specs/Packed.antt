-- A caller as one number of 32 bits: variables are at most 256, positions at most 4,096. Assumes nothing.
use Rattle.std.specs.Prelude.{Bool, cond, ℕ, ◌+◌, ◌*◌}
use Rattle.schema.specs.Derivation.{Pair, ◌at◌}

-- A pair as one number.
abbrev pub packed : Pair → ℕ
packed (A at p) = 8192 * A + p

-- A caller: the pair, and whether what it called is its second call.
abbrev pub entry : Bool → Pair → ℕ
entry k x = 2 * packed x + cond k 1 0
