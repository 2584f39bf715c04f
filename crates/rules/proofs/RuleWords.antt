-- The operands of a kind 4 rule that a word holds. Assumes nothing.
use mathlib.Core.Bool.{Bool, true, false, cond}
use mathlib.Core.List.{List}
use mathlib.Core.Path.{◌≡◌, sym}
use Prim.Native.Nat.{ℕ, zero, suc, ◌+◌, ◌-◌, ◌/◌, ◌%◌, ◌≤◌}
use native.Mathlib.Nat.{suc-ne-zero}
use native.Mathlib.Omega.{arith}
use lib.Dec.{eqb}
use lib.ListN.{get_or}
use Rattle.grammar.specs.Rule.{Rule, absent, always, never, byte, class, call}
use Rattle.grammar.specs.Words.{rule_for, rule_in, first_in, second_in}

-- The rule of a variable is that of its word.
pub word_of : (ws : List ℕ) (A : ℕ) → 1 ≤ A → rule_in ws A ≡ rule_for (get_or ws (A - 1) 0)
word_of ws zero h = absurd (omega arith)
word_of ws (suc i) h = let q : suc i - 1 ≡ i = omega arith in rw q

-- The operands B, C, D are those of the word w.
pub record Operands (w B C D : ℕ) : Type 0 where
  pub first : B ≡ w / 65536 % 256 + 1
  pub second : C ≡ w / 256 % 256 + 1
  pub third : D ≡ w % 256 + 1

passed : (b : Bool) (x y R : Rule) → cond b x y ≡ R → (x ≡ R → ⊥) → y ≡ R
passed true x y R e n = absurd (n e)
passed false x y R e n = e

operands_of : (w B C D : ℕ) → rule_for w ≡ call B C D → Operands w B C D
unfolding rule_for
operands_of w B C D e =
    last (eqb kind 5)
    (passed (eqb kind 4) (class _) _ _
    (passed (eqb kind 3) (byte _) _ _
    (passed (eqb kind 2) never _ _
    (passed (eqb kind 1) always _ _ e (λ x. suc-ne-zero 0 (cc))) (λ x. suc-ne-zero 0 (cc))) (λ x. suc-ne-zero 0 (cc)))
    (λ x. suc-ne-zero 0 (cc)))
  where
    kind : ℕ
    kind = w / 16777216

    last : (b : Bool) → cond b (call (w / 65536 % 256 + 1) (w / 256 % 256 + 1) (w % 256 + 1)) absent ≡ call B C D → Operands w B C D
    last true e = record { first = cc; second = cc; third = cc }
    last false e = absurd (suc-ne-zero 0 (cc))

-- A rule among words that is of kind 4 has the operands of its variable's word, so they are from 1 to 256.
pub operands : (ws : List ℕ) (A B C D : ℕ) → rule_in ws A ≡ call B C D → Operands (get_or ws (A - 1) 0) B C D
operands ws zero B C D e = absurd (suc-ne-zero 0 (cc))
operands ws (suc i) B C D e = let q : suc i - 1 ≡ i = omega arith in rw q (operands_of (get_or ws i 0) B C D e)

-- The variable that a rule of kind 4 calls first is B.
pub first_in_law : (ws : List ℕ) (A B C D : ℕ) → rule_in ws A ≡ call B C D → first_in ws A ≡ B
first_in_law ws A B C D e = sym (operands ws A B C D e).first

-- The variable that a rule of kind 4 calls second is C after a success and D after a failure.
pub second_in_law : (ws : List ℕ) (A B C D : ℕ) (flag : Bool) → rule_in ws A ≡ call B C D → second_in ws A flag ≡ cond flag C D
second_in_law ws A B C D true e = sym (operands ws A B C D e).second
second_in_law ws A B C D false e = sym (operands ws A B C D e).third
