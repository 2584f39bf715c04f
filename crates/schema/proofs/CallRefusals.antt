-- A call is refused with a number exactly under that number's condition, where no condition that comes earlier in the order holds. Assumes nothing.
use mathlib.Core.Path.{◌≡◌, ap₂, ◌∙◌}
use mathlib.Core.List.{List}
use mathlib.Core.Logic.{◌↔◌}
use Prim.Native.Nat.{ℕ, ◌≤◌}
use native.Mathlib.Omega.{arith}
use Rattle.grammar.specs.Refusal.{refused, checked}
use Rattle.grammar.specs.Sheet.{grammar_of, condition, sheet_order, sheet}
use Rattle.grammar.proofs.Refusals.{then, Each, each_append, each_also, refused_exactly, checked_then, checked_below, checked_from}
use Rattle.grammar.proofs.SheetRefusals.{sheet_numbers_law}
use Rattle.schema.specs.Handed.{Handed, call_condition, handed_condition, call_order, handed_order, Refuses, handed}

-- The refusals of a call, both ways.
pub call_refused : (s : List ℕ) (h : Handed) (x l : ℕ) → handed s h ≡ refused x l ↔ Refuses s h x l
unfolding handed
call_refused s h x l = refused_exactly (handed_condition s h) (handed_order s) (grammar_of s) x l

-- The sheet's, and then the call's own.
pub handed_parts : (s : List ℕ) (h : Handed) → handed s h ≡ then (sheet s) (checked (call_condition (grammar_of s) h) call_order (grammar_of s))
unfolding handed handed_condition handed_order sheet
handed_parts s h =
    let g = grammar_of s in
    checked_then (handed_condition s h) (sheet_order s) call_order g g
    ∙ ap₂ then (checked_below 6 (call_condition g h) (condition s) g (sheet_order s) (sheet_numbers_law s))
    (checked_from 6 (call_condition g h) (condition s) g call_order (omega arith, (omega arith, (omega arith, (omega arith, (omega arith, tt))))))

-- Their numbers are at most 11.
pub call_numbers : (s : List ℕ) → Each (λ x. x ≤ 11) (handed_order s)
unfolding handed_order
call_numbers s =
    each_append (λ x. x ≤ 11) (sheet_order s) call_order (each_also _ (λ x. x ≤ 11) (sheet_order s) (λ x l. omega arith) (sheet_numbers_law s))
    (omega arith, (omega arith, (omega arith, (omega arith, (omega arith, tt)))))
