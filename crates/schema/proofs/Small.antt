-- The numbers and lines of refusals and the codes of outcomes are small. Assumes nothing.
use mathlib.Core.Bool.{Bool, true, false}
use mathlib.Core.List.{List, [], ◌∷◌, ◌++◌}
use mathlib.Core.Path.{◌≡◌, refl, subst}
use Prim.Native.Nat.{ℕ, zero, suc, ◌+◌, ◌-◌, ◌≤◌}
use native.Mathlib.Omega.{arith}
use lib.ListN.{length}
use Rattle.grammar.specs.Refusal.{refused, checked}
use Rattle.grammar.specs.Rule.{Rule}
use Rattle.grammar.specs.Sheet.{lines, grammar_of, not_lines, condition, header_order, rule_order, sheet_order, sheet}
use Rattle.grammar.proofs.Refusals.{refused_each}
use Rattle.grammar.proofs.Whole.{lines_whole}
use Rattle.schema.specs.Derivation.{◌at◌, success, failure, missing, Outcome, result, stopped, loop, Has}
use Rattle.schema.specs.Handed.{Handed, handed_condition, call_order, handed_order, handed}
use Rattle.schema.specs.Table.{code}
use Rattle.schema.proofs.CallRefusals.{call_refused, call_numbers}
use Rattle.schema.proofs.Ends.{derives_ends}
use Rattle.schema.proofs.Tested.{handed_refused}

-- The number of a refusal of a call that is handed no reading is at most 11.
pub refusal_small : (s : List ℕ) (h : Handed) (x l : ℕ) → handed s h ≡ refused x l → x ≤ 11
unfolding handed
refusal_small s h x l e = refused_each (λ y. y ≤ 11) (handed_condition s h) (handed_order s) (grammar_of s) x l (call_numbers s) e

-- Each line of an order is at most k.
abbrev LinesMost : ℕ → List (ℕ × ℕ) → Type 0
LinesMost k [] = Unit {0}
LinesMost k (r ∷ rs) = (r.1 ≤ k) × LinesMost k rs

most_append : (k : ℕ) (rs qs : List (ℕ × ℕ)) → LinesMost k rs → LinesMost k qs → LinesMost k (rs ++ qs)
most_append k [] qs m n = n
most_append k (r ∷ rs) qs m n = (m.0, most_append k rs qs m.1 n)

most_at : (k : ℕ) (before after : List (ℕ × ℕ)) (x l : ℕ) → LinesMost k (before ++ (x, l) ∷ after) → l ≤ k
most_at k [] after x l m = m.0
most_at k (r ∷ rs) after x l m = most_at k rs after x l m.1

rule_lines : (k n count : ℕ) → n + count ≤ k + 1 → LinesMost k (rule_order n count)
unfolding rule_order
rule_lines k n zero m = tt
rule_lines k n (suc count) m = (omega arith, (omega arith, (omega arith, rule_lines k (suc n) count (omega arith))))

call_lines : (s : List ℕ) → lines s ≤ 257 → LinesMost 257 (handed_order s)
unfolding handed_order sheet_order
call_lines s m =
    most_append 257 ((1, 0) ∷ header_order ++ rule_order 2 (lines s - 1)) call_order
    (omega arith, (omega arith, (omega arith, rule_lines 257 2 (lines s - 1) (omega arith))))
    (omega arith, (omega arith, (omega arith, (omega arith, (omega arith, tt)))))

not_lines_law : (s : List ℕ) → not_lines s ≡ true → sheet s ≡ refused 1 0
unfolding sheet sheet_order condition checked
not_lines_law s e = rw e

-- Its line is at most 257.
pub refusal_line : (s : List ℕ) (h : Handed) (x l : ℕ) → handed s h ≡ refused x l → l ≤ 257
refusal_line s h x l e = by_lines (not_lines s) refl
  where
    by_lines : (t : Bool) → not_lines s ≡ t → l ≤ 257
    by_lines true q = let f = handed_refused s h 1 0 (not_lines_law s q) in let z : l ≡ 0 = cc in omega arith
    by_lines false q =
        let f = (call_refused s h x l).0 e in
        most_at 257 f.before f.after x l (subst (LinesMost 257) f.order (call_lines s (lines_whole s q).few_lines))

-- The code of an outcome on up to 4,096 bytes.
pub code_small : (rule : ℕ → Rule) (s : List ℕ) (A p : ℕ) (o : Outcome) → p ≤ length s → length s ≤ 4096 → Has rule s (A at p) o → code o ≤ 4101
code_small rule s A p (result (success q)) l m d = let e = derives_ends rule s l d.2 in omega arith
code_small rule s A p (result failure) l m d = omega arith
code_small rule s A p (stopped missing) l m d = omega arith
code_small rule s A p loop l m d = omega arith
