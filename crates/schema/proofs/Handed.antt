-- What an accepted call was handed: an accepted sheet, a pair within, slices that are long enough. Assumes nothing.
use mathlib.Core.Bool.{Bool, false, ◌||◌, true≢false}
use mathlib.Core.List.{List}
use mathlib.Core.Option.{Option, some}
use mathlib.Core.Path.{◌≡◌, refl, sym, ap, ◌∙◌}
use Prim.Native.Nat.{ℕ, ◌*◌, ◌≤◌}
use lib.Dec.{ltb}
use lib.ListN.{length}
use borrow.Author.Tests.{ltb-false, not-false}
use Rattle.grammar.specs.Refusal.{Checked, refused, accepted}
use Rattle.grammar.specs.Order.{NoneHolds}
use Rattle.grammar.specs.Rule.{within}
use Rattle.grammar.specs.Sheet.{Grammar, sheet}
use Rattle.schema.specs.Derivation.{Pair, ◌at◌}
use Rattle.schema.specs.Handed.{Handed, tested, pair_variable_out, pair_position_out, call_condition, call_order, handed}
use Rattle.schema.specs.Table.{cells}
use Rattle.grammar.proofs.Refusals.{accepted_same, accepted_none}
use Rattle.grammar.proofs.Fitting.{neither_true, within_bounds}
use Rattle.schema.proofs.Cell.{PairWithin}
use Rattle.schema.proofs.Tested.{handed_refused, handed_then}

-- A test of something handed over.
tested_is : {A : Type 0} (o : Option A) (out : A → Bool) (a : A) → o ≡ some a → tested o out ≡ false → out a ≡ false
tested_is o out a q f = ap (λ p. tested p out) (sym q) ∙ f

module _ (s : List ℕ) (h : Handed) (g : Grammar) (e : handed s h ≡ accepted g) where
  -- The sheet is accepted.
  pub handed_sheet : sheet s ≡ accepted g
  handed_sheet = go (sheet s) refl
    where
      go : (o : Checked Grammar) → sheet s ≡ o → sheet s ≡ accepted g
      go (refused x l) p = let q = handed_refused s h x l p in absurd (true≢false (cc))
      go (accepted k) p =
          p ∙ ap accepted (accepted_same (call_condition k h) call_order k g (sym (handed_then s h k p) ∙ e))

  call_clear : NoneHolds (call_condition g h) call_order
  call_clear = accepted_none (call_condition g h) call_order g g (sym (handed_then s h g handed_sheet) ∙ e)

  -- The input is not too long.
  pub handed_input : length h.input ≤ 4096
  unfolding call_condition
  handed_input = ltb-false 4096 (length h.input) call_clear.0

  -- The pair, where one is handed over, is within.
  pub handed_pair : (x : Pair) → h.pair ≡ some x → PairWithin g.variables (length h.input) x
  unfolding call_condition
  handed_pair (A at p) q =
      let v = g.variables in
      let n = length h.input in
      let a = tested_is h.pair (pair_variable_out v) (A at p) q call_clear.1.0 in
      let b = tested_is h.pair (pair_position_out n) (A at p) q call_clear.1.1.0 in
      let i = within_bounds 1 v A (not-false (within 1 v A) a) in
      record { variable = i; position = ltb-false n p b }

  -- Table and work slice, where they are handed over, are long enough,
  pub handed_slices : (table work : ℕ) → h.slices ≡ some (table, work)
      → (2 * cells g.variables (length h.input) ≤ table) × (cells g.variables (length h.input) ≤ work)
  unfolding call_condition
  handed_slices table work q =
      let count = cells g.variables (length h.input) in
      let a = tested_is h.slices (λ l. ltb l.0 (2 * count) || ltb l.1 count) (table, work) q call_clear.1.1.1.0 in
      let b = neither_true (ltb table (2 * count)) (ltb work count) a in
      (ltb-false table (2 * count) b.0, ltb-false work count b.1)

  -- and so is the output.
  pub handed_output : (out : ℕ) → h.output ≡ some out → 49 * cells g.variables (length h.input) ≤ out
  unfolding call_condition
  handed_output out q =
      let count = cells g.variables (length h.input) in
      ltb-false out (49 * count) (tested_is h.output (λ l. ltb l (49 * count)) out q call_clear.1.1.1.1.0)
