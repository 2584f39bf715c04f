-- A certificate is refused with a number exactly under that number's condition, where no condition that comes earlier in the order holds.
-- Assumes nothing.
use mathlib.Core.List.{List, [], ◌∷◌}
use mathlib.Core.Logic.{◌↔◌}
use mathlib.Core.Path.{◌≡◌, ap₂, ap, ◌∙◌}
use Prim.Native.Nat.{ℕ, zero, suc, ◌≤◌, ◌<◌, ◌%◌}
use native.Mathlib.Omega.{arith}
use lib.ListN.{length}
use borrow.Author.Tests.{eq-eqb}
use Rattle.grammar.specs.Refusal.{refused, checked}
use Rattle.grammar.specs.Rule.{Rule}
use Rattle.grammar.specs.Sheet.{grammar_of}
use Rattle.grammar.specs.Order.{FirstHolds}
use Rattle.grammar.proofs.Refusals.{then, Each, each_append, each_also, refused_exactly, checked_then, checked_below, checked_from}
use Rattle.schema.specs.Derivation.{Pair}
use Rattle.schema.specs.Handed.{asked, handed_condition, handed_order, handed}
use Rattle.schema.proofs.CallRefusals.{call_numbers}
use Rattle.checker.specs.Checker.{lines, line_at, line_condition, certificate_condition, check_condition, line_order, lines_order, certificate_order, check_order, claim_of, last_found, judged, check}
use Rattle.checker.specs.Steps.{lines_found}

-- The refusals of the checker, both ways.
pub check_refused_exactly : (sheet input : List ℕ) (x : Pair) (s : List ℕ) (y l : ℕ)
    → check sheet input x s ≡ refused y l ↔ FirstHolds (check_condition sheet input x s) (check_order sheet s) y l
unfolding check
check_refused_exactly sheet input x s y l = refused_exactly (check_condition sheet input x s) (check_order sheet s) (claim_of (line_at s (lines s))) y l

-- ---- Their numbers.

lines_numbers : (k : ℕ) → Each (λ x. (12 ≤ x) × (x < 14)) (lines_order k)
unfolding lines_order
lines_numbers zero = tt
lines_numbers (suc k) = each_append _ (lines_order k) (line_order (suc k)) (lines_numbers k) (omega arith, (omega arith, tt))

lines_below : (k : ℕ) → Each (λ x. x < 14) (lines_order k)
lines_below k = each_also _ (λ x. x < 14) (lines_order k) (λ x l. l.1) (lines_numbers k)

certificate_numbers : (s : List ℕ) → Each (λ x. (12 ≤ x) × (x ≤ 14)) (certificate_order s)
unfolding certificate_order
certificate_numbers s =
    let rest = each_also _ (λ x. (12 ≤ x) × (x ≤ 14)) (lines_order (lines s)) (λ x l. omega arith) (lines_numbers (lines s)) in
    (omega arith, each_append _ (lines_order (lines s)) ((14, 0) ∷ []) rest (omega arith, tt))

pub check_numbers : (sheet s : List ℕ) → Each (λ x. x ≤ 14) (check_order sheet s)
unfolding check_order
check_numbers sheet s =
    each_append _ (handed_order sheet) (certificate_order s) (each_also _ (λ x. x ≤ 14) (handed_order sheet) (λ x l. omega arith) (call_numbers sheet))
    (each_also _ (λ x. x ≤ 14) (certificate_order s) (λ x l. l.1) (certificate_numbers s))

-- ---- Their parts.

-- To the lines of a certificate only 12 and 13 matter.
pub lines_alone : (rule : ℕ → Rule) (v : ℕ) (input : List ℕ) (x : Pair) (s : List ℕ) (k : ℕ)
    → checked (certificate_condition rule v input x s) (lines_order k) tt ≡ lines_found rule v input s k
unfolding certificate_condition lines_found
lines_alone rule v input x s k = checked_below 14 _ (line_condition rule v input s) tt (lines_order k) (lines_below k)

-- A certificate of whole lines: its lines, and then the last one.
pub judged_parts : (rule : ℕ → Rule) (v : ℕ) (input : List ℕ) (x : Pair) (s : List ℕ) → length s % 49 ≡ 0
    → judged rule v input x s ≡ then (lines_found rule v input s (lines s)) (last_found x (line_at s (lines s)))
unfolding judged certificate_condition certificate_order line_condition checked last_found
judged_parts rule v input x s e =
    let k = lines s in
    rw (eq-eqb (length s % 49) 0 e)
    (checked_then (certificate_condition rule v input x s) (lines_order k) ((14, 0) ∷ []) tt (claim_of (line_at s k))
    ∙ ap (λ c. then c (last_found x (line_at s k))) (lines_alone rule v input x s k))

-- The question's, and then the certificate's.
pub check_parts : (sheet input : List ℕ) (x : Pair) (s : List ℕ)
    → check sheet input x s ≡ then (handed sheet (asked input x)) (judged (grammar_of sheet).rule (grammar_of sheet).variables input x s)
unfolding check check_condition check_order handed judged
check_parts sheet input x s =
    let g = grammar_of sheet in
    let claim = claim_of (line_at s (lines s)) in
    let certificate = certificate_condition g.rule g.variables input x s in
    let question = handed_condition sheet (asked input x) in
    checked_then (check_condition sheet input x s) (handed_order sheet) (certificate_order s) g claim
    ∙ ap₂ then (checked_below 12 certificate question g (handed_order sheet) (each_also _ (λ x. x < 12) (handed_order sheet) (λ x l. omega arith) (call_numbers sheet)))
    (checked_from 12 certificate question claim (certificate_order s) (each_also _ (λ x. 12 ≤ x) (certificate_order s) (λ x l. l.0) (certificate_numbers s)))
