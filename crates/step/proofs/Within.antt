-- A pair that is called is within. Assumes nothing.
use mathlib.Core.Bool.{Bool}
use mathlib.Core.List.{List}
use Prim.Native.Nat.{ℕ}
use lib.ListN.{length}
use Rattle.grammar.specs.Rule.{Rule}
use Rattle.schema.specs.Closed.{Closed}
use Rattle.schema.specs.Derivation.{Pair}
use Rattle.schema.proofs.Cell.{PairWithin}
use Rattle.schema.proofs.Closed.{calls_call, second_within}
use Rattle.step.specs.Codes.{Called, first_called, second_called}

module _ (rule : ℕ → Rule) (s : List ℕ) (v : ℕ) (closed : Closed v rule) where
  -- A pair that is called is within.
  pub called_within : {T : List ℕ} {k : Bool} {x y : Pair} → PairWithin v (length s) x → Called rule s T k x y → PairWithin v (length s) y
  called_within w (first_called {A} {B} {C} {D} {p} e) =
      let c = closed A B C D (calls_call (rule A) s p B C D e) in
      record { variable = c.0; position = w.position }
  called_within w (second_called {A} {B} {C} {D} {p} {t} e m) =
      let c = closed A B C D (calls_call (rule A) s p B C D e) in
      second_within v (length s) C D p t c.1 c.2 w.position m.ends
