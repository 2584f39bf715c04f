-- The test for 21 fails exactly where two entries differ at c at most. Assumes nothing.
use mathlib.Core.Bool.{Bool, true, false, not}
use mathlib.Core.List.{List}
use mathlib.Core.Logic.{◌≢◌, ◌↔◌}
use mathlib.Core.Path.{◌≡◌, refl, sym, ◌∙◌}
use Prim.Native.Nat.{ℕ, ◌≤◌}
use native.Mathlib.Omega.{arith}
use lib.Dec.{eqb, ltb}
use lib.ListN.{length, get_or, get_or-eq_default}
use borrow.Author.Tests.{ltb-true, ltb-false, eqb-true, eqb-false, eq-eqb, ne_eqb, not-false}
use Rattle.grammar.proofs.Fitting.{neither_true}
use Rattle.kept.specs.Differs.{DiffersAt, bytes_differ, other_bytes_differ, differs_elsewhere}
use Rattle.kept.specs.Some.{some}
use Rattle.kept.proofs.Some.{some_none, some_each}

module _ (c : ℕ) (s s' : List ℕ) where
  -- Of different lengths nothing need be compared.
  pub other_length : length s ≢ length s' → differs_elsewhere c s s' ≡ true
  unfolding differs_elsewhere
  other_length n = rw (ne_eqb (length s) (length s') n)

  pub if_differs : DiffersAt c s s' → differs_elsewhere c s s' ≡ false
  unfolding differs_elsewhere
  if_differs d = rw (eq-eqb (length s) (length s') (sym d.size), some_none (length s') (other_bytes_differ c s s') (λ p l. at_each p (eqb p c) refl))
    where
      at_each : (p : ℕ) (b : Bool) → eqb p c ≡ b → other_bytes_differ c s s' p ≡ false
      at_each p true h = rw h
      at_each p false h = rw (h, eq-eqb (get_or s p 0) (get_or s' p 0) (sym (d.same p (eqb-false p c h))))

  -- Behind the end both have nothing.
  behind : length s ≡ length s' → (p : ℕ) → length s' ≤ p → get_or s' p 0 ≡ get_or s p 0
  behind z p l = get_or-eq_default s' 0 {n = p} l ∙ sym (get_or-eq_default s 0 {n = p} (omega arith))

  pub then_differs : differs_elsewhere c s s' ≡ false → DiffersAt c s s'
  unfolding differs_elsewhere
  then_differs e =
      let both = neither_true (not (eqb (length s) (length s'))) (some (length s') (other_bytes_differ c s s')) e in
      let z = eqb-true (length s) (length s') (not-false (eqb (length s) (length s')) both.0) in
      record { size = sym z; same = λ p n. by_position_law z both.1 p n (ltb p (length s')) refl }
    where
      by_position_law : length s ≡ length s' → some (length s') (other_bytes_differ c s s') ≡ false → (p : ℕ) → p ≢ c → (b : Bool) → ltb p (length s') ≡ b → get_or s' p 0 ≡ get_or s p 0
      by_position_law z none p n true l =
          let each : other_bytes_differ c s s' p ≡ false = some_each (length s') (other_bytes_differ c s s') none p (ltb-true p (length s') l) in
          let same : bytes_differ s s' p ≡ false = rw (ne_eqb p c n) at each in
          sym (eqb-true (get_or s p 0) (get_or s' p 0) (not-false (eqb (get_or s p 0) (get_or s' p 0)) same))
      by_position_law z none p n false l = behind z p (ltb-false p (length s') l)

  pub differs_exactly : (differs_elsewhere c s s' ≡ false) ↔ DiffersAt c s s'
  differs_exactly = (then_differs, if_differs)
