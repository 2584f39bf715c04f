-- What the tests of a cell say, and what the second pair's cell says of the pair that calls it. Assumes nothing.
use mathlib.Core.Path.{◌≡◌, refl, sym, ap, ◌∙◌}
use mathlib.Core.Logic.{inl, inr, ◌≢◌}
use mathlib.Core.List.{List}
use mathlib.Core.Bool.{Bool, true, false, cond}
use Prim.Native.Nat.{ℕ, ◌-◌, ◌≤◌}
use native.Mathlib.Omega.{arith}
use lib.Dec.{eqb}
use lib.ListN.{length}
use borrow.Author.Tests.{eq-eqb, ne_eqb}
use Rattle.grammar.specs.Rule.{Rule}
use Rattle.schema.specs.Cells.{held_at, reach_at}
use Rattle.schema.specs.Derivation.{Pair, ◌at◌, Result, success, failure, gives, act, leaf}
use Rattle.schema.specs.Table.{cell, held, reach}
use Rattle.schema.proofs.Ends.{derives_ends}
use Rattle.step.specs.Codes.{open_mark, Settled, Fits, result_of, fresh}

-- The cell that was loaded.
pub held_is : (n : ℕ) (T : List ℕ) (y : Pair) (c i : ℕ) → c ≡ held_at T i → i ≡ cell n y → held n T y ≡ c
held_is n T y c i e f = ap (λ (j : ℕ). held_at T j) (sym f) ∙ sym e

pub reach_is : (n : ℕ) (T : List ℕ) (y : Pair) (m i : ℕ) → m ≡ reach_at T i → i ≡ cell n y → m ≡ reach n T y
reach_is n T y m i e f = e ∙ ap (λ (j : ℕ). reach_at T j) f

-- What its code says.
pub failure_settled : (n c : ℕ) → c ≡ 1 → Settled n c failure
failure_settled n c e = record { code_is = e; ends = tt }

pub success_settled : (n c : ℕ) → Fits n c → 5 ≤ c → c ≢ open_mark → Settled n c (success (c - 5))
success_settled n c (inl f) l d = record { code_is = omega arith; ends = omega arith }
success_settled n c (inr f) l d = absurd (d f)

-- What a rule does, as its code says it.
pub leaf_end : (rule : ℕ → Rule) (s : List ℕ) (A p q : ℕ) → p ≤ length s → act rule s (A at p) ≡ gives (success q) → q ≤ length s
leaf_end rule s A p q l e = (derives_ends rule s {x = A at p} l (leaf e)).1

-- A cell is new only where it is blank.
pub fresh_not : (c : ℕ) → c ≢ 0 → fresh c ≡ 0
fresh_not c d = rw (ne_eqb c 0 d) refl

pub fresh_small : (c : ℕ) → fresh c ≤ 1
fresh_small c = go (eqb c 0)
  where
    go : (t : Bool) → cond t 1 0 ≤ 1
    go true = omega arith
    go false = omega arith

-- A settled code stands for its result.
pub result_is : (n c : ℕ) (r : Result) → Settled n c r → result_of c ≡ r
result_is n c failure m = rw (eq-eqb c 1 m.code_is)
result_is n c (success q) m =
    let e = m.code_is in
    let f : c - 5 ≡ q = omega arith in
    rw (ne_eqb c 1 (λ z. omega arith), f)
