-- Document 02, order 1: "Every letter has the outcome, loop included, that its line has when read directly." Assumes nothing.
use mathlib.Core.List.{List}
use mathlib.Core.Logic.{◌↔◌}
use mathlib.Core.Path.{refl}
use Prim.Native.Nat.{ℕ}
use Rattle.grammar.specs.Rule.{Rule}
use Rattle.schema.specs.Derivation.{◌at◌, Outcome, result, stopped, loop, Has, Loops}
use Rattle.notation.specs.Text.{letter, Line}
use Rattle.notation.specs.Direct.{item, Reads, Directly}
use Rattle.notation.proofs.Acts.{of, letter_at, Translates, Gets}
use Rattle.notation.proofs.Forward.{forward}
use Rattle.notation.proofs.Backward.{backward}

module _ {rule : ℕ → Rule} {number : ℕ → ℕ} {E F : ℕ} {Known : ℕ → Type 0} {ls : List Line} (t : Translates rule number E F Known ls)
    (s : List ℕ) (A : ℕ) (k : Known A) (p : ℕ) where
  there : (o : Outcome) → Reads ls s (item (letter A)) p o → Gets rule s (number A at p) o
  there o d = forward t s d (number A) (letter_at refl k)

  back : (o : Outcome) → Gets rule s (number A at p) o → Reads ls s (item (letter A)) p o
  back o g = backward t s (number A) p o g (of (item (letter A))) (letter_at refl k)

  none_left : Loops rule s (number A at p) → (o : Outcome) → Gets rule s (number A at p) o → ⊥
  none_left l (result r) g = l.no_result r g.0 g.1 g.2
  none_left l (stopped w) g = l.no_stop w g
  none_left l loop g = g

  pub same_outcome : (o : Outcome) → Directly ls s A p o ↔ Has rule s (number A at p) o
  same_outcome (result r) = (there (result r), back (result r))
  same_outcome (stopped w) = (there (stopped w), back (stopped w))
  same_outcome loop = (
    λ n. record { no_result = λ r j h d. n (result r) (back (result r) (j, h, d)); no_stop = λ w d. n (stopped w) (back (stopped w) d) },
    λ l o d. none_left l o (there o d),
  )
