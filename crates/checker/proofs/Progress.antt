-- The tests of a certificate's lines, one by one. Assumes nothing.
use mathlib.Core.Bool.{Bool, true, false, cond, not}
use mathlib.Core.List.{List}
use mathlib.Core.Path.{◌≡◌, refl, sym, ◌∙◌}
use Prim.Native.Nat.{ℕ, zero, suc, ◌+◌, ◌-◌, ◌≤◌, ◌<◌}
use native.Mathlib.Numerals.{add-one}
use native.Mathlib.Omega.{arith}
use Rattle.grammar.specs.Refusal.{refused, accepted, checked}
use Rattle.grammar.specs.Order.{NoneHolds}
use Rattle.grammar.specs.Rule.{Rule}
use Rattle.grammar.specs.Sheet.{is_none}
use Rattle.grammar.proofs.Refusals.{then, accepted_clear, checked_then}
use Rattle.checker.specs.Checker.{line_at, earlier_line, follows, line_condition, line_order, lines_order}
use Rattle.checker.specs.Steps.{line_found, lines_found}

module _ (rule : ℕ → Rule) (v : ℕ) (input s : List ℕ) where
  -- One line: it is not of the form, it does not follow, or it passes.
  pub line_tests : (n : ℕ) → 1 ≤ n
      → line_found rule v input s n
      ≡ cond (is_none (line_at s n)) (refused 12 n) (cond (follows rule v input (earlier_line s n) (line_at s n)) (accepted tt) (refused 13 n))
  unfolding line_found line_condition checked
  line_tests zero l = absurd (omega arith)
  line_tests (suc k) l = go (is_none (line_at s (suc k))) (follows rule v input (earlier_line s (suc k)) (line_at s (suc k)))
    where
      go : (b c : Bool) → cond b (refused 12 (suc k)) (cond (not c) (refused 13 (suc k)) (accepted (tt {0}))) ≡ cond b (refused 12 (suc k)) (cond c (accepted tt) (refused 13 (suc k)))
      go true c = refl
      go false true = refl
      go false false = refl

  -- The first k lines pass.
  abbrev pub Passed : ℕ → Type 0
  Passed k = NoneHolds (line_condition rule v input s) (lines_order k)

  -- Then the first k lines are not refused.
  pub ends : (count : ℕ) → Passed count → accepted tt ≡ lines_found rule v input s count
  unfolding lines_found
  ends count p = sym ((accepted_clear (line_condition rule v input s) (lines_order count) tt).1 p)

  -- No line,
  pub no_lines : accepted tt ≡ lines_found rule v input s 0
  unfolding lines_order lines_found checked
  no_lines = refl

  -- and one line more.
  pub lines_more : (k : ℕ) → lines_found rule v input s (k + 1) ≡ then (lines_found rule v input s k) (line_found rule v input s (k + 1))
  unfolding lines_order line_found lines_found
  lines_more k = rw (add-one k) (checked_then (line_condition rule v input s) (lines_order k) (line_order (suc k)) tt tt)

  stays : (x n k j : ℕ) → refused x n ≡ lines_found rule v input s k → refused x n ≡ lines_found rule v input s (j + k)
  stays x n k zero f = let z : 0 + k ≡ k = omega arith in rw z f
  stays x n k (suc j) f =
      let z : suc j + k ≡ (j + k) + 1 = omega arith in
      rw z (sym (lines_more (j + k) ∙ rw (← stays x n k j f)))

  -- The first line that is refused.
  pub refuses : (k count x n : ℕ) → k < count → accepted tt ≡ lines_found rule v input s k → refused x n ≡ line_found rule v input s (k + 1)
      → refused x n ≡ lines_found rule v input s count
  refuses k count x n l p e =
      let z : (count - (k + 1)) + (k + 1) ≡ count = omega arith in
      let here : refused x n ≡ lines_found rule v input s (k + 1) = sym (lines_more k ∙ rw (← p, ← e)) in
      rw z at (stays x n (k + 1) (count - (k + 1)) here)

-- What `check_lines` finds.
pub ruleset testing = (no_lines, lines_more, refuses)
