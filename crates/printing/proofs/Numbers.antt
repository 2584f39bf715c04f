-- The numbers of a rule's line, and its word. Assumes nothing.
use mathlib.Core.Bool.{Bool, true, false, true≢false, false≢true}
use mathlib.Core.List.{List}
use mathlib.Core.Path.{◌≡◌, refl, ap}
use Prim.Native.Nat.{ℕ, zero, suc, ◌-◌, ◌≤◌}
use native.Mathlib.Omega.{arith}
use lib.ListN.{get_or}
use Rattle.std.specs.Prelude.{Option, Some, None}
use Rattle.grammar.specs.Printing.{rule_numbers, is_absent}
use Rattle.grammar.specs.Rule.{Rule, absent, always, never, byte, class, call}
use Rattle.grammar.specs.Words.{rule_for, rule_in}
use Rattle.printing.specs.Listing.{numbers_of}

abbrev found : Option (List ℕ) → Bool
found (Some xs) = true
found None = false

-- A variable whose line has no numbers has no rule,
pub no_numbers : (A : ℕ) (r : Rule) → None ≡ numbers_of A r → r ≡ absent
no_numbers A absent e = refl
no_numbers A always e = absurd (false≢true (ap found e))
no_numbers A never e = absurd (false≢true (ap found e))
no_numbers A (byte b) e = absurd (false≢true (ap found e))
no_numbers A (class c) e = absurd (false≢true (ap found e))
no_numbers A (call B C D) e = absurd (false≢true (ap found e))

-- and one whose line has some has a rule with these.
pub some_numbers : (A : ℕ) (r : Rule) {xs : List ℕ} → Some xs ≡ numbers_of A r → (is_absent r ≡ false) × (xs ≡ rule_numbers A r)
some_numbers A absent e = absurd (true≢false (ap found e))
some_numbers A always e = (refl, cc)
some_numbers A never e = (refl, cc)
some_numbers A (byte b) e = (refl, cc)
some_numbers A (class c) e = (refl, cc)
some_numbers A (call B C D) e = (refl, cc)

-- The rule of a variable is that of its word.
pub rule_there : (ws : List ℕ) (A : ℕ) → 1 ≤ A → rule_for (get_or ws (A - 1) 0) ≡ rule_in ws A
rule_there ws zero l = absurd (omega arith)
rule_there ws (suc i) l = let q : suc i - 1 ≡ i = omega arith in rw q
