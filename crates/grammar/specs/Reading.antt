-- What the steps of reading a sheet find. Assumes nothing.
use Rattle.std.specs.Prelude.{List, [], ◌∷◌, ◌≡◌, ℕ, ◌-◌, ◌≤◌, Result, Ok, Err, Option as Maybe, Some, None}
use Rattle.std.proofs.Math.Option.{Option, none, some, get_or}
use Rattle.grammar.specs.Refusal.{Checked, checked}
use Rattle.grammar.specs.Rule.{Rule, absent}
use Rattle.grammar.specs.Sheet.{lines, variables_of, start_of, endmarker_of, variable_at, variable_before, rule_at, rule_within, condition, header_order, line_order, rule_order}
use Rattle.grammar.specs.Words.{word, words, rule_held}
use Rattle.grammar.specs.declared.rule.Rule.{Rule as Held}
use Rattle.grammar.specs.Numbers.{checked_as}
use Rattle.grammar.specs.declared.refusal.Refusal.{Refusal}

-- The rule of a kind and operands that fit.
abbrev pub rule_given : Maybe Held → Option Rule
rule_given (Some r) = some (rule_held r)
rule_given None = none

-- "line 1 for 2, 3": the first refusal of line 1, or its numbers.
unfoldable pub header_found : List ℕ → Checked (List ℕ)
header_found s = checked (condition s) header_order (variables_of s ∷ start_of s ∷ endmarker_of s ∷ [])

-- "each next line for 2, 4, 5": the variable of a line and the word of its rule.
abbrev pub line_says : Result (ℕ × ℕ) Refusal → Checked (List ℕ)
line_says = checked_as (λ r. r.0 ∷ r.1 ∷ [])

-- The first refusal of a rule line, or its variable and word.
unfoldable pub line_found : List ℕ → ℕ → Checked (List ℕ)
line_found s n = checked (condition s) (line_order n) (variable_at s n ∷ word (get_or (rule_at s n) absent) ∷ [])

-- What is known before a rule line is read.
pub record Before (s : List ℕ) (n variables before : ℕ) : Type 0 where
  pub low : 2 ≤ n
  pub high : n ≤ 257
  pub variables_are : variables ≡ variables_of s
  pub variables_few : variables ≤ 256
  pub before_is : before ≡ variable_before s n

-- All rule lines.
abbrev pub rules_say : Result (Unit {0}) Refusal → Checked (Unit {0})
rules_say = checked_as (λ u. tt)

-- The first refusal of the rule lines.
unfoldable pub rules_found : List ℕ → Checked (Unit {0})
rules_found s = checked (condition s) (rule_order 2 (lines s - 1)) tt

-- The array after the rule lines; free where one is refused.
abbrev pub Stored : List ℕ → Result (Unit {0}) Refusal → List ℕ → Type 0
Stored s (Ok u) after = after ≡ words (rule_within s (lines s - 1))
Stored s (Err e) after = Unit {0}

-- What is known before the rule lines are read.
pub record Ready (s : List ℕ) (variables count : ℕ) (before : List ℕ) : Type 0 where
  pub variables_are : variables ≡ variables_of s
  pub variables_few : variables ≤ 256
  pub count_is : count ≡ lines s
  pub count_some : 1 ≤ count
  pub count_few : count ≤ 257
  pub blank : before ≡ words (λ A. absent)
