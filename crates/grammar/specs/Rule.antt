-- Document 01, "The rule sheet": the kinds of rules. Assumes nothing.
use Rattle.std.specs.Prelude.{Bool, cond, ◌&&◌, ℕ, ◌≤◌, leb, eqb}
use Rattle.std.proofs.Math.Option.{Option, none, some}

-- The rule of a variable: kinds 0 to 4; "A variable with no line has no rule": absent.
pub data Rule : Type 0 where
  absent always never : Rule
  byte : ℕ → Rule
  class : ℕ → Rule
  call : ℕ → ℕ → ℕ → Rule

-- x is one of low to high.
abbrev pub within : ℕ → ℕ → ℕ → Bool
within low high x = leb low x && leb x high

-- "Unused operands are 0."
abbrev pub unused : ℕ → Bool
unused x = eqb x 0

-- The rule, if its operands fit.
abbrev pub fitting : Bool → Rule → Option Rule
fitting fits r = cond fits (some r) none

-- The rule of a kind and its operands x, y, z, on a sheet of v variables (document 01: V); none for "kind over 4 or operands not fitting".
unfoldable pub rule_of : ℕ → ℕ → ℕ → ℕ → ℕ → Option Rule
rule_of v kind x y z =
    cond (eqb kind 0) (fitting (unused x && unused y && unused z) always)
    (cond (eqb kind 1) (fitting (unused x && unused y && unused z) never)
    (cond (eqb kind 2) (fitting (within 0 255 x && unused y && unused z) (byte x))
    (cond (eqb kind 3) (fitting (within 1 6 x && unused y && unused z) (class x))
    (cond (eqb kind 4) (fitting (within 1 v x && within 1 v y && within 1 v z) (call x y z))
    none))))

-- The operands of a rule fit v variables: "byte 0 to 255", "class 1 to 6", "B, C, D in 1 to V".
abbrev pub Fits : ℕ → Rule → Type 0
Fits v absent = Unit {0}
Fits v always = Unit {0}
Fits v never = Unit {0}
Fits v (byte b) = b ≤ 255
Fits v (class c) = (1 ≤ c) × (c ≤ 6)
Fits v (call B C D) = (1 ≤ B) × (B ≤ v) × (1 ≤ C) × (C ≤ v) × (1 ≤ D) × (D ≤ v)
