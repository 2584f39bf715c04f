-- Document 01, "Verdict asks the start variable at 0". Assumes nothing.
use Rattle.std.specs.Prelude.{cond, ℕ, eqb}
use Rattle.schema.specs.Derivation.{success, failure, missing, Outcome, result, stopped, loop}

-- "recognised (success ending at n), partial (success ending elsewhere), failure, loop, missing, ..", on n bytes, by
-- "code (0 recognised, 1 failure, 2 loop, 3 missing, .. 5 partial, 9 refused)"
abbrev pub verdict_code : ℕ → Outcome → ℕ
verdict_code n (result (success q)) = cond (eqb q n) 0 5
verdict_code n (result failure) = 1
verdict_code n loop = 2
verdict_code n (stopped missing) = 3
