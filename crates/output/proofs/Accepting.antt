-- Where the verdict is not refused, the writer is not refused for the start variable at 0. Assumes nothing.
use mathlib.Core.List.{List}
use mathlib.Core.Path.{◌≡◌, refl, ◌∙◌}
use Prim.Native.Nat.{ℕ, ◌*◌, ◌≤◌}
use native.Mathlib.Omega.{arith}
use lib.ListN.{length}
use borrow.Author.Tests.{le-ltb, le-leb}
use Rattle.grammar.specs.Refusal.{accepted}
use Rattle.grammar.specs.Sheet.{Grammar}
use Rattle.grammar.proofs.Accepted.{grammar_in_range}
use Rattle.grammar.proofs.Refusals.{accepted_clear}
use Rattle.schema.specs.Derivation.{◌at◌}
use Rattle.schema.specs.Handed.{call_condition, call_order, handed, verdict_of, writer_of}
use Rattle.schema.specs.Table.{cells}
use Rattle.schema.proofs.Tested.{handed_then}
use Rattle.schema.proofs.Handed.{handed_sheet, handed_input, handed_slices}

module _ (s input : List ℕ) (g : Grammar) (e : handed s (verdict_of input 2048 1024) ≡ accepted g) where
  -- 1,024 lines fit in an output of 50,176 bytes.
  pub writer_accepted : (k : ℕ) → 50176 ≤ k → handed s (writer_of input (g.start at 0) 2048 1024 k) ≡ accepted g
  unfolding call_condition
  writer_accepted k l =
      let b = grammar_in_range s g (handed_sheet s _ g e) in
      let n = length input in
      let count = cells g.variables n in
      let room = handed_slices s _ g e 2048 1024 refl in
      let few = room.1 in
      handed_then s (writer_of input (g.start at 0) 2048 1024 k) g (handed_sheet s _ g e)
      ∙ (accepted_clear (call_condition g (writer_of input (g.start at 0) 2048 1024 k)) call_order g).1 (
        le-ltb 4096 n (handed_input s _ g e),
        (
          rw (le-leb 1 g.start b.2, le-leb g.start g.variables b.3) refl,
          (le-ltb n 0 (omega arith), (rw (le-ltb 2048 (2 * count) room.0, le-ltb 1024 count room.1) refl, (le-ltb k (49 * count) (omega arith), tt))),
        ),
      )
