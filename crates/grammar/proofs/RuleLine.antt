-- What the numbers of a rule line make of it. Assumes nothing.
use mathlib.Core.Path.{◌≡◌, refl, ap, sym, ◌∙◌}
use mathlib.Core.Bool.{Bool, true, false, cond, not, ◌||◌}
use mathlib.Core.List.{List, [], ◌∷◌}
use mathlib.Core.Option
use mathlib.Core.Option.{Option, none, some}
use Prim.Native.Nat.{ℕ}
use lib.Dec.{leb}
use lib.ListN.{get_or}
use Rattle.grammar.specs.Refusal.{Checked, refused, accepted, checked}
use Rattle.grammar.specs.Rule.{Rule, absent, within, rule_of}
use Rattle.grammar.specs.Sheet.{line_at, is_none, variables_of, variable_before, variable_out, condition}
use Rattle.grammar.specs.Words.{word}
use Rattle.grammar.specs.Reading.{rule_given, line_found}
use Rattle.std.specs.Prelude.{Option as Maybe}
use Rattle.grammar.specs.declared.rule.Rule.{Rule as Held}

-- By its rule.
abbrev by_rule : ℕ → ℕ → Option Rule → Checked (List ℕ)
by_rule n A none = refused 5 n
by_rule n A (some r) = accepted (A ∷ word r ∷ [])

by_fitting : (n A : ℕ) (o : Option Rule)
    → by_rule n A o ≡ cond (is_none o) (refused 5 n) (accepted (A ∷ word (Option.get_or o absent) ∷ []))
by_fitting n A none = refl
by_fitting n A (some r) = refl

-- A rule line by the tests of its numbers, of v variables and after the variable b.
pub line_found_law : (s : List ℕ) (n : ℕ) {xs : List ℕ} {v b : ℕ} {p q : Bool} {w : Option Rule} → line_at s n ≡ some xs
    → v ≡ variables_of s → b ≡ variable_before s n → within 1 v (get_or xs 0 0) ≡ p → leb (get_or xs 0 0) b ≡ q
    → rule_of v (get_or xs 1 0) (get_or xs 2 0) (get_or xs 3 0) (get_or xs 4 0) ≡ w
    → cond (not p || q) (refused 4 n) (by_rule n (get_or xs 0 0) w) ≡ line_found s n
unfolding line_found checked condition variable_out
line_found_law s n {xs} {v} line e f g h i =
    rw (line, ← e, ← f, g, h, ← by_fitting n (get_or xs 0 0) (rule_of v (get_or xs 1 0) (get_or xs 2 0) (get_or xs 3 0) (get_or xs 4 0)), i)

-- A rule line whose variable is accepted, by the rule that was found.
pub rule_found : (s : List ℕ) (n : ℕ) {xs : List ℕ} {v b : ℕ} {r variant : Maybe Held} → line_at s n ≡ some xs
    → v ≡ variables_of s → b ≡ variable_before s n → within 1 v (get_or xs 0 0) ≡ true → leb (get_or xs 0 0) b ≡ false
    → rule_given r ≡ rule_of v (get_or xs 1 0) (get_or xs 2 0) (get_or xs 3 0) (get_or xs 4 0) → r ≡ variant
    → by_rule n (get_or xs 0 0) (rule_given variant) ≡ line_found s n
rule_found s n line e f g h found k = line_found_law s n line e f g h (sym found ∙ ap rule_given k)

pub malformed_line : (s : List ℕ) (n : ℕ) → line_at s n ≡ none → refused 2 n ≡ line_found s n
unfolding line_found checked condition
malformed_line s n e = rw e
