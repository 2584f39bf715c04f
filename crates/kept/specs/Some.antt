-- Whether some number below a bound passes a test. Assumes nothing.
use Rattle.std.specs.Prelude.{Bool, false, ◌||◌, ℕ, zero, suc}

-- Some number below m passes the test.
unfoldable pub some : ℕ → (ℕ → Bool) → Bool
some zero test = false
some (suc m) test = some m test || test m
