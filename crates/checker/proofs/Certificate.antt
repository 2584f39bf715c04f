-- A whole certificate: its length, its lines, its last line; and what comes before it. Assumes nothing.
use mathlib.Core.List.{List}
use mathlib.Core.Path.{◌≡◌, sym, ap, ◌∙◌}
use Prim.Native.Nat.{ℕ, ◌%◌}
use lib.ListN.{length}
use borrow.Author.Tests.{ne_eqb}
use Rattle.grammar.specs.Refusal.{refused, accepted, checked}
use Rattle.grammar.specs.Rule.{Rule}
use Rattle.grammar.specs.Sheet.{Grammar}
use Rattle.grammar.proofs.Accepted.{describes}
use Rattle.grammar.proofs.HandedOn.{handed_on}
use Rattle.schema.specs.Derivation.{Pair}
use Rattle.schema.specs.Handed.{asked, handed}
use Rattle.schema.proofs.Handed.{handed_sheet}
use Rattle.checker.specs.Checker.{lines, line_at, line_condition, certificate_condition, certificate_order, last_found, judged, check}
use Rattle.checker.specs.Steps.{lines_found}
use Rattle.checker.proofs.CheckRefusals.{judged_parts, check_parts}

module _ (rule : ℕ → Rule) (v : ℕ) (input : List ℕ) (x : Pair) (s : List ℕ) where
  -- The length is no multiple of 49.
  pub judged_length : (length s % 49 ≡ 0 → ⊥) → refused 12 0 ≡ judged rule v input x s
  unfolding checked line_condition certificate_condition certificate_order judged
  judged_length d = rw (ne_eqb (length s % 49) 0 d)

  -- A line is refused.
  pub judged_line : {y n : ℕ} → length s % 49 ≡ 0 → refused y n ≡ lines_found rule v input s (lines s) → refused y n ≡ judged rule v input x s
  judged_line e f = sym (judged_parts rule v input x s e ∙ rw (← f))

  -- All lines pass: the last one remains.
  pub judged_last : length s % 49 ≡ 0 → accepted tt ≡ lines_found rule v input s (lines s) → last_found x (line_at s (lines s)) ≡ judged rule v input x s
  judged_last e f = sym (judged_parts rule v input x s e ∙ rw (← f))

module _ (sheet input : List ℕ) (x : Pair) (s : List ℕ) where
  -- The question is refused,
  pub check_refused : (y l : ℕ) → handed sheet (asked input x) ≡ refused y l → refused y l ≡ check sheet input x s
  check_refused y l e = sym (check_parts sheet input x s ∙ rw e)

  -- or its rules judge the certificate.
  pub check_judged : (g : Grammar) {rule : ℕ → Rule} {v : ℕ} → rule ≡ g.rule → g.variables ≡ v → handed sheet (asked input x) ≡ accepted g
      → judged rule v input x s ≡ check sheet input x s
  check_judged g e f h =
      let same = (describes sheet g (handed_sheet sheet (asked input x) g h)).grammar_is in
      rw (e, ← f) (sym (check_parts sheet input x s ∙ rw h (ap (λ (k : Grammar). judged k.rule k.variables input x s) same)))

-- What `judge` finds.
pub ruleset judging = (judged_length, judged_line, judged_last, handed_on)
