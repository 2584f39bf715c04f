-- What a rule that looks at one byte does, by what is seen. Assumes nothing.
use mathlib.Core.Bool.{Bool, true, false}
use mathlib.Core.List.{List}
use mathlib.Core.Path.{◌≡◌, refl}
use Prim.Native.Nat.{ℕ, ◌≤◌, ◌<◌}
use lib.Dec.{eqb, ltb}
use lib.ListN.{length}
use borrow.Author.Tests.{ltb-true, ltb-false}
use Rattle.std.specs.Prelude.{Option, Some, None}
use Rattle.schema.specs.Derivation.{one_byte}
use Rattle.rules.specs.Act.{by_seen}

-- What is seen stands where the input has a byte, and nothing is seen behind it.
pub sees : (s : List ℕ) (p wanted x : ℕ) {seen : Option ℕ} → (p < length s → seen ≡ Some x) → (length s ≤ p → seen ≡ None)
    → by_seen p wanted seen ≡ one_byte s p (eqb x wanted)
sees s p wanted x {seen} within past = go (ltb p (length s)) refl
  where
    go : (b : Bool) → ltb p (length s) ≡ b → by_seen p wanted seen ≡ one_byte s p (eqb x wanted)
    go true e = rw (within (ltb-true p (length s) e), e)
    go false e = rw (past (ltb-false p (length s) e), e)
