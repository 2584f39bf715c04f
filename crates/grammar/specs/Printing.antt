-- Document 01, "The rule sheet": the sheet that is printed from a grammar. Assumes nothing.
use Rattle.std.specs.Prelude.{Bool, true, false, cond, List, [], ◌∷◌, ◌++◌, map, ◌≡◌, ℕ, zero, suc, ◌≤◌, ◌<◌, eqb}
use Rattle.columns.specs.Column.{row}
use Rattle.grammar.specs.Rule.{Rule, absent, always, never, byte, class, call, Fits}
use Rattle.grammar.specs.Sheet.{Grammar}

-- "A sheet line is five fields of 5 columns and byte 10": the bytes of lines, each given by its numbers.
unfoldable pub text : List (List ℕ) → List ℕ
text [] = []
text (xs ∷ xss) = row 5 xs ++ text xss

-- "V, the count of variables ..; the start variable ..; the endmarker byte ..; 0; 0"
abbrev pub header_numbers : ℕ → ℕ → ℕ → List ℕ
header_numbers v start endmarker = v ∷ start ∷ endmarker ∷ 0 ∷ 0 ∷ []

-- "variable .., kind, three operands", "Unused operands are 0." No line says that a rule is absent.
abbrev pub rule_numbers : ℕ → Rule → List ℕ
rule_numbers A absent = []
rule_numbers A always = A ∷ 0 ∷ 0 ∷ 0 ∷ 0 ∷ []
rule_numbers A never = A ∷ 1 ∷ 0 ∷ 0 ∷ 0 ∷ []
rule_numbers A (byte b) = A ∷ 2 ∷ b ∷ 0 ∷ 0 ∷ []
rule_numbers A (class c) = A ∷ 3 ∷ c ∷ 0 ∷ 0 ∷ []
rule_numbers A (call B C D) = A ∷ 4 ∷ B ∷ C ∷ D ∷ []

-- The numbers of each rule line.
abbrev pub rule_rows : List (ℕ × Rule) → List (List ℕ)
rule_rows rules = map (λ r. rule_numbers r.0 r.1) rules

-- The sheet of V, the start variable, the endmarker byte, and the variables that have a rule, each with its rule.
unfoldable pub printed : ℕ → ℕ → ℕ → List (ℕ × Rule) → List ℕ
printed v start endmarker rules = text (header_numbers v start endmarker ∷ rule_rows rules)

-- Is there no rule?
abbrev pub is_absent : Rule → Bool
is_absent absent = true
is_absent always = false
is_absent never = false
is_absent (byte b) = false
is_absent (class c) = false
is_absent (call B C D) = false

-- Of the variables A, A + 1, .., k of them, those that have a rule, each with its rule.
unfoldable pub rules_from : (ℕ → Rule) → ℕ → ℕ → List (ℕ × Rule)
rules_from rule zero A = []
rules_from rule (suc k) A = cond (is_absent (rule A)) (rules_from rule k (suc A)) ((A, rule A) ∷ rules_from rule k (suc A))

-- Of the variables 1 to V.
abbrev pub rules_of : ℕ → (ℕ → Rule) → List (ℕ × Rule)
rules_of v rule = rules_from rule v 1

-- "A variable with no line has no rule": the rule of variable A among these.
unfoldable pub listed : List (ℕ × Rule) → ℕ → Rule
listed [] A = absent
listed (r ∷ rs) A = cond (eqb A r.0) r.1 (listed rs A)

-- The grammar of these rules.
abbrev pub listed_grammar : ℕ → ℕ → ℕ → List (ℕ × Rule) → Grammar
listed_grammar v start endmarker rules = record { variables = v; start = start; endmarker = endmarker; rule = listed rules }

-- "variable (rising)": the variables are above the one before and at most V, and each has a rule whose operands fit.
abbrev pub Rising : ℕ → ℕ → List (ℕ × Rule) → Type 0
Rising v before [] = Unit {0}
Rising v before (r ∷ rs) = (before < r.0) × (r.0 ≤ v) × Fits v r.1 × (r.1 ≡ absent → ⊥) × Rising v r.0 rs

-- "V .. (1 to 256); the start variable (1 to V); the endmarker byte (0 to 255)"
pub record Printable (v start endmarker : ℕ) (rules : List (ℕ × Rule)) : Type 0 where
  pub variables_in : (1 ≤ v) × (v ≤ 256)
  pub start_in : (1 ≤ start) × (start ≤ v)
  pub endmarker_in : endmarker ≤ 255
  pub rules_in : Rising v 0 rules

-- The bytes are the sheet that is printed from these rules, which are those of the grammar.
pub record PrintedFrom (g : Grammar) (rules : List (ℕ × Rule)) (s : List ℕ) : Type 0 where
  pub printable : Printable g.variables g.start g.endmarker rules
  pub prints : s ≡ printed g.variables g.start g.endmarker rules
  pub rules_are : (A : ℕ) → listed rules A ≡ g.rule A
