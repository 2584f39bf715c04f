-- Every sheet that is printed from a grammar is read as that grammar. Assumes nothing.
use mathlib.Core.Path.{◌≡◌, refl, ap, ◌∙◌, fun_ext}
use mathlib.Core.Bool.{Bool, true, false, cond}
use mathlib.Core.List.{List, [], ◌∷◌}
use mathlib.Core.Option.{some}
use Prim.Native.Nat.{ℕ, suc, ◌+◌, ◌-◌, ◌≤◌}
use native.Mathlib.Omega.{arith}
use lib.Dec.{eqb}
use lib.ListN.{length, get_or, length-map}
use borrow.Author.Tests.{eqb-true, ne_eqb, lt-leb}
use Rattle.columns.proofs.Rows.{Fit}
use Rattle.grammar.specs.Refusal.{accepted}
use Rattle.grammar.specs.Rule.{Rule, absent, always, never, byte, class, call, rule_of, Fits}
use Rattle.grammar.specs.Sheet.{lines, line_at, variables_of, variable_at, variable_before, rule_at, rule_within, grammar_of, not_lines, malformed, header_out, variable_out, condition, rule_order, sheet_order, sheet}
use Rattle.grammar.specs.Order.{NoneHolds}
use Rattle.grammar.specs.Printing.{text, header_numbers, rule_numbers, rule_rows, printed, listed, listed_grammar, Rising, Printable}
use Rattle.grammar.proofs.Fitting.{within_both}
use Rattle.grammar.proofs.Refusals.{accepted_clear}
use Rattle.grammar.proofs.Progress.{before_next}
use Rattle.grammar.proofs.Text.{Lines, LinesAt, text_read, text_lines, text_ended}

-- ---- One rule, of v variables.

-- The numbers of a rule's line: five that fit, the variable first, and a kind with operands that make the rule.
record RuleRow (v A : ℕ) (r : Rule) (xs : List ℕ) : Type 0 where
  five : length xs ≡ 5
  fit : Fit 5 xs
  variable_is : get_or xs 0 0 ≡ A
  rule_is : rule_of v (get_or xs 1 0) (get_or xs 2 0) (get_or xs 3 0) (get_or xs 4 0) ≡ some r

rule_row : (v A : ℕ) (r : Rule) → v ≤ 256 → A ≤ v → Fits v r → (r ≡ absent → ⊥) → RuleRow v A r (rule_numbers A r)
unfolding rule_of
rule_row v A absent few l f n = absurd (n refl)
rule_row v A always few l f n = record { five = refl; fit = omega arith; variable_is = refl; rule_is = refl }
rule_row v A never few l f n = record { five = refl; fit = omega arith; variable_is = refl; rule_is = refl }
rule_row v A (byte b) few l f n = record { five = refl; fit = omega arith; variable_is = refl; rule_is = rw (within_both 0 255 b (omega arith) f) }
rule_row v A (class c) few l f n = record { five = refl; fit = omega arith; variable_is = refl; rule_is = rw (within_both 1 6 c f.0 f.1) }
rule_row v A (call B C D) few l f n =
    record {
      five = refl;
      fit = omega arith;
      variable_is = refl;
      rule_is = rw (within_both 1 v B f.0 f.1, within_both 1 v C f.2 f.3, within_both 1 v D f.4 f.5);
    }

-- Line n holds the rule r of the variable A.
record HasRule (s : List ℕ) (n A : ℕ) (r : Rule) : Type 0 where
  formed : malformed s n ≡ false
  variable_is : variable_at s n ≡ A
  rule_is : rule_at s n ≡ some r

has_rule : (s : List ℕ) (n A : ℕ) (r : Rule) (xs : List ℕ) → RuleRow (variables_of s) A r xs → line_at s n ≡ some xs → HasRule s n A r
has_rule s n A r xs w e = record { formed = rw e; variable_is = rw e w.variable_is; rule_is = rw e w.rule_is }

-- ---- The rules of a list, on the lines from n on, of the variables above b.

rows_fit : (v b : ℕ) (rs : List (ℕ × Rule)) → v ≤ 256 → Rising v b rs → Lines (rule_rows rs)
rows_fit v b [] few h = tt
rows_fit v b (r ∷ rs) few h =
    let w = rule_row v r.0 r.1 few h.1 h.2 h.3 in
    (w.five, w.fit, rows_fit v r.0 rs few h.4)

rows_few : (v b : ℕ) (rs : List (ℕ × Rule)) → b ≤ v → Rising v b rs → length rs + b ≤ v
rows_few v b [] l h = omega arith
rows_few v b (r ∷ rs) l h = let k = rows_few v r.0 rs h.1 h.4 in omega arith

module _ (s : List ℕ) (few : variables_of s ≤ 256) where
  here : (n b : ℕ) (r : ℕ × Rule) (rs : List (ℕ × Rule)) → Rising (variables_of s) b (r ∷ rs) → LinesAt s n (rule_rows (r ∷ rs)) → HasRule s n r.0 r.1
  here n b r rs h t = has_rule s n r.0 r.1 _ (rule_row (variables_of s) r.0 r.1 few h.1 h.2 h.3) t.0

  -- No line is refused.
  rules_clear : (n b : ℕ) (rs : List (ℕ × Rule)) → 2 ≤ n → variable_before s n ≡ b → Rising (variables_of s) b rs → LinesAt s n (rule_rows rs)
      → NoneHolds (condition s) (rule_order n (length rs))
  unfolding rule_order condition variable_out
  rules_clear n b [] low e h t = tt
  rules_clear n b (r ∷ rs) low e h t =
      let w = here n b r rs h t in
      let after : variable_before s (suc n) ≡ r.0 = before_next s n low ∙ w.variable_is in (
        w.formed,
        (
          rw (w.variable_is, e, within_both 1 (variables_of s) r.0 (omega arith) h.1, lt-leb r.0 b h.0),
          (rw w.rule_is, rules_clear (suc n) r.0 rs (omega arith) after h.4 t.1),
        ),
      )

  -- The first line alone, and the lines behind it.
  one_more : (k A : ℕ) (r : ℕ × Rule) → HasRule s (k + 2) r.0 r.1 → rule_within s (suc k) A ≡ cond (eqb A r.0) r.1 (rule_within s k A)
  unfolding rule_within
  one_more k A r w = rw (w.variable_is, w.rule_is)

  behind : (k : ℕ) (rs : List (ℕ × Rule)) → LinesAt s (suc (k + 2)) (rule_rows rs) → LinesAt s (suc k + 2) (rule_rows rs)
  behind k rs t = let e : suc (k + 2) ≡ suc k + 2 = omega arith in rw e at t

  -- A variable that is not above b has no rule on these lines.
  rules_below : (k b A : ℕ) (rs : List (ℕ × Rule)) → A ≤ b → Rising (variables_of s) b rs → LinesAt s (k + 2) (rule_rows rs)
      → rule_within s (length rs + k) A ≡ rule_within s k A
  rules_below k b A [] l h t = let z : 0 + k ≡ k = omega arith in rw z
  rules_below k b A (r ∷ rs) l h t =
      let z : suc (length rs) + k ≡ length rs + suc k = omega arith in
      rw z
      (rules_below (suc k) r.0 A rs (omega arith) h.4 (behind k rs t.1) ∙ one_more k A r (here (k + 2) b r rs h t) ∙ rw (ne_eqb A r.0 (λ e. omega arith)))

  -- The rule of a variable that has none on the lines before is the one of the list.
  rules_listed : (k b A : ℕ) (rs : List (ℕ × Rule)) → rule_within s k A ≡ absent → Rising (variables_of s) b rs → LinesAt s (k + 2) (rule_rows rs)
      → rule_within s (length rs + k) A ≡ listed rs A
  unfolding listed
  rules_listed k b A [] e h t = let z : 0 + k ≡ k = omega arith in rw z e
  rules_listed k b A (r ∷ rs) e h t =
      let z : suc (length rs) + k ≡ length rs + suc k = omega arith in
      rw z (go (eqb A r.0) refl (λ f. rules_listed (suc k) r.0 A rs f h.4 (behind k rs t.1)))
    where
      first : rule_within s (suc k) A ≡ cond (eqb A r.0) r.1 (rule_within s k A)
      first = one_more k A r (here (k + 2) b r rs h t)

      go : (c : Bool) → eqb A r.0 ≡ c → (rule_within s (suc k) A ≡ absent → rule_within s (length rs + suc k) A ≡ listed rs A)
          → rule_within s (length rs + suc k) A ≡ cond c r.1 (listed rs A)
      go true p rest =
          let q = eqb-true A r.0 p in
          rules_below (suc k) r.0 A rs (omega arith) h.4 (behind k rs t.1) ∙ first ∙ rw p
      go false p rest = rest (first ∙ rw p e)

-- ---- The whole sheet.

module _ {v start endmarker : ℕ} {rules : List (ℕ × Rule)} (p : Printable v start endmarker rules) where
  text_rows : Lines (header_numbers v start endmarker ∷ rule_rows rules)
  text_rows =
      let a = p.variables_in in
      let b = p.start_in in
      let c = p.endmarker_in in
      (refl, omega arith, rows_fit v 0 rules a.1 p.rules_in)

  -- Lines that are read as the numbers of a grammar are that grammar's sheet.
  lines_printed : (s : List ℕ) → not_lines s ≡ false → lines s - 1 ≡ length rules → line_at s 1 ≡ some (header_numbers v start endmarker)
      → LinesAt s 2 (rule_rows rules) → sheet s ≡ accepted (listed_grammar v start endmarker rules)
  unfolding sheet sheet_order condition header_out rule_within
  lines_printed s whole count line rest =
      let a = p.variables_in in
      let b = p.start_in in
      let c = p.endmarker_in in
      let variables_are : variables_of s ≡ v = rw line in
      let rising : Rising (variables_of s) 0 rules = rw variables_are p.rules_in in
      let few : variables_of s ≤ 256 = omega arith in
      let rules_are : rule_within s (lines s - 1) ≡ listed rules =
      let z : length rules + 0 ≡ length rules = omega arith in
      rw (count, ← z) (fun_ext (λ A. rules_listed s few 0 0 A rules refl rising rest)) in
      let header_in : header_out s ≡ false =
      rw line (rw (within_both 1 256 v a.0 a.1, within_both 1 v start b.0 b.1, within_both 0 255 endmarker (omega arith) c)) in
      let clear : NoneHolds (condition s) (sheet_order s) = (whole, (rw line, (header_in, rw count (rules_clear s few 2 0 rules (omega arith) refl rising rest)))) in
      (accepted_clear (condition s) (sheet_order s) (grammar_of s)).1 clear
      ∙ rw line (ap (λ (f : ℕ → Rule). accepted (record { variables = v; start = start; endmarker = endmarker; rule = f })) rules_are)

  -- A sheet that is printed from a grammar is read as that grammar.
  pub printed_read : sheet (printed v start endmarker rules) ≡ accepted (listed_grammar v start endmarker rules)
  unfolding printed
  printed_read =
      let rows = header_numbers v start endmarker ∷ rule_rows rules in
      let few = p.variables_in.1 in
      let n : length (rule_rows rules) ≡ length rules = length-map rules (λ r. rule_numbers r.0 r.1) in
      let m : length rules + 0 ≤ v = rows_few v 0 rules (omega arith) p.rules_in in
      let l = text_lines rows text_rows in
      let read = text_read rows text_rows in
      lines_printed (text rows) (text_ended rows text_rows (omega arith) (omega arith)) (omega arith) read.0 read.1
