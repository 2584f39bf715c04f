-- Tests of bounds, and the word of a rule by its kind. Assumes nothing.
use mathlib.Core.Path.{◌≡◌, refl, sym, ap}
use mathlib.Core.Bool.{Bool, true, false, ◌&&◌, ◌||◌, false≢true, and-false}
use Prim.Native.Nat.{ℕ, ◌≤◌, ◌<◌}
use lib.Dec.{leb}
use borrow.Author.Tests.{leb-true, le-leb, lt-leb}
use mathlib.Core.Option.{map}
use Rattle.grammar.specs.Rule.{within, rule_of}
use Rattle.grammar.specs.Words.{word}

-- Neither of two tests is true.
pub neither_true : (a b : Bool) → a || b ≡ false → (a ≡ false) × (b ≡ false)
neither_true true b e = absurd (false≢true (sym e))
neither_true false b e = (refl, e)

-- A number within bounds is between them.
pub within_bounds : (low high x : ℕ) → within low high x ≡ true → (low ≤ x) × (x ≤ high)
within_bounds low high x e = go (leb low x) (leb x high) refl refl e
  where
    go : (t u : Bool) → leb low x ≡ t → leb x high ≡ u → (t && u) ≡ true → (low ≤ x) × (x ≤ high)
    go false u p q f = absurd (false≢true f)
    go true false p q f = absurd (false≢true f)
    go true true p q f = (leb-true low x p, leb-true x high q)

-- The tests of the bounds.
pub within_low : (low high x : ℕ) → x < low → within low high x ≡ false
within_low low high x h = rw (lt-leb low x h)

pub within_high : (low high x : ℕ) → high < x → within low high x ≡ false
within_high low high x h = rw (lt-leb x high h) (and-false (leb low x))

pub within_both : (low high x : ℕ) → low ≤ x → x ≤ high → within low high x ≡ true
within_both low high x h k = rw (le-leb low x h, le-leb x high k)

-- The word of the rule of a kind that is known.
pub at_kind_law : (v kind x y z k : ℕ) → kind ≡ k → map word (rule_of v k x y z) ≡ map word (rule_of v kind x y z)
at_kind_law v kind x y z k e = ap (λ (j : ℕ). map word (rule_of v j x y z)) (sym e)
