-- Cases a and e: how far their five cells looked. Assumes nothing.
use mathlib.Core.List.{List, [], ◌∷◌}
use mathlib.Core.Path.{refl}
use Prim.Native.Nat.{ℕ}
use Rattle.columns.specs.Column.{leading, column, row, digits_after, number, field, fields}
use Rattle.classes.specs.Class.{class_in, class_of}
use Rattle.grammar.specs.Rule.{Rule, rule_of}
use Rattle.grammar.specs.Sheet.{grammar_of, line_at, rule_within}
use Rattle.grammar.specs.Printing.{text}
use Rattle.schema.specs.Cases.{sheet_h}
use Rattle.schema.specs.Derivation.{◌at◌, success, failure, act_of}
use Rattle.schema.specs.Examined.{Examines, leaf, node}

abbrev rule_h : ℕ → Rule
rule_h = (grammar_of (text sheet_h)).rule

abbrev entry_a : List ℕ
entry_a = 45 ∷ 54 ∷ 46 ∷ []

-- The sign, the digit and the mark, each one past its position; then the number and the whole, the greater of two.
pub sign_reach : Examines rule_h entry_a (2 at 0) (success 1) 1
unfolding text leading column row digits_after number field fields line_at rule_within rule_of class_of class_in act_of
sign_reach = leaf {x = 2 at 0} {r = success 1} refl

pub digit_reach : Examines rule_h entry_a (4 at 1) (success 2) 2
unfolding text leading column row digits_after number field fields line_at rule_within rule_of class_of class_in act_of
digit_reach = leaf {x = 4 at 1} {r = success 2} refl

pub mark_reach : Examines rule_h entry_a (5 at 2) (success 3) 3
unfolding text leading column row digits_after number field fields line_at rule_within rule_of class_of class_in act_of
mark_reach = leaf {x = 5 at 2} {r = success 3} refl

pub number_reach : Examines rule_h entry_a (3 at 1) (success 3) 3
unfolding text leading column row digits_after number field fields line_at rule_within rule_of class_of class_in act_of
number_reach = node {A = 3} {B = 4} {C = 5} {D = 6} {p = 1} {r = success 3} {t = success 2} refl digit_reach mark_reach

pub whole_reach : Examines rule_h entry_a (1 at 0) (success 3) 3
unfolding text leading column row digits_after number field fields line_at rule_within rule_of class_of class_in act_of
whole_reach = node {A = 1} {B = 2} {C = 3} {D = 3} {p = 0} {r = success 3} {t = success 1} refl sign_reach number_reach

abbrev entry_e : List ℕ
entry_e = 45 ∷ 54 ∷ []

-- Case e: the mark is asked for at n, which is 2, and fails "with reach n + 1".
pub end_reach : Examines rule_h entry_e (5 at 2) failure 3
unfolding text leading column row digits_after number field fields line_at rule_within rule_of class_of class_in act_of
end_reach = leaf {x = 5 at 2} {r = failure} refl

pub digit_before_end : Examines rule_h entry_e (4 at 1) (success 2) 2
unfolding text leading column row digits_after number field fields line_at rule_within rule_of class_of class_in act_of
digit_before_end = leaf {x = 4 at 1} {r = success 2} refl

pub unended_reach : Examines rule_h entry_e (3 at 1) failure 3
unfolding text leading column row digits_after number field fields line_at rule_within rule_of class_of class_in act_of
unended_reach = node {A = 3} {B = 4} {C = 5} {D = 6} {p = 1} {r = failure} {t = success 2} refl digit_before_end end_reach

pub sign_before_end : Examines rule_h entry_e (2 at 0) (success 1) 1
unfolding text leading column row digits_after number field fields line_at rule_within rule_of class_of class_in act_of
sign_before_end = leaf {x = 2 at 0} {r = success 1} refl

pub whole_unended : Examines rule_h entry_e (1 at 0) failure 3
unfolding text leading column row digits_after number field fields line_at rule_within rule_of class_of class_in act_of
whole_unended = node {A = 1} {B = 2} {C = 3} {D = 3} {p = 0} {r = failure} {t = success 1} refl sign_before_end unended_reach
