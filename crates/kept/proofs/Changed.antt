-- Entries that differ at one position at most. Assumes nothing.
use mathlib.Core.List.{List}
use mathlib.Core.Path.{refl, sym}
use Prim.Native.Nat.{ℕ}
use lib.ListN.{set, length-set}
use lib.Seq.{get_or-set_other}
use Rattle.kept.specs.Differs.{DiffersAt}

-- An entry with any byte at c;
pub differs_set : (c b : ℕ) (s : List ℕ) → DiffersAt c s (set s c b)
differs_set c b s = record { size = length-set s c b; same = λ p n. get_or-set_other s c p b 0 n }

-- one that is as it was;
pub differs_same : (c : ℕ) (s : List ℕ) → DiffersAt c s s
differs_same c s = record { size = refl; same = λ p n. refl }

-- and the older in place of the newer.
pub differs_back : (c : ℕ) (s s' : List ℕ) → DiffersAt c s s' → DiffersAt c s' s
differs_back c s s' d = record { size = sym d.size; same = λ p n. sym (d.same p n) }
