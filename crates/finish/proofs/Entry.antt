-- The parts of a caller's entry in the work slice. Assumes nothing.
use mathlib.Core.Path.{◌≡◌}
use mathlib.Core.Bool.{Bool, true, false}
use Prim.Native.Nat.{ℕ, ◌/◌, ◌%◌, ◌≤◌}
use native.Mathlib.Omega.{arith}
use lib.Dec.{eqb}
use borrow.Author.Tests.{eq-eqb, ne_eqb}
use Rattle.schema.specs.Derivation.{◌at◌}
use Rattle.cells.specs.Packed.{entry}

-- The entry e is that of C at p, for its second call or its first.
pub record Parts (e : ℕ) (second : Bool) (C p : ℕ) : Type 0 where
  pub variable : e / 16384 ≡ C
  pub position : e / 2 % 8192 ≡ p
  pub call : eqb (e % 2) 1 ≡ second

pub entry_parts : (second : Bool) (C p n : ℕ) {e : ℕ} → n ≤ 4096 → p ≤ n → e ≡ entry second (C at p) → Parts e second C p
entry_parts true C p n {e} short l h = record { variable = omega arith; position = omega arith; call = eq-eqb (e % 2) 1 (omega arith) }
entry_parts false C p n {e} short l h = record { variable = omega arith; position = omega arith; call = ne_eqb (e % 2) 1 (λ z. omega arith) }
