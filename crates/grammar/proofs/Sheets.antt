-- A sheet is accepted exactly if it is printed from its grammar. Assumes nothing.
use mathlib.Core.Bool.{false}
use mathlib.Core.Path.{◌≡◌, refl, ap, sym, ◌∙◌, subst, fun_ext}
use mathlib.Core.List.{List, [], ◌∷◌}
use mathlib.Core.Logic.{◌↔◌}
use mathlib.Core.Option.{some, get_or}
use Prim.Native.Nat.{ℕ, zero, suc, ◌+◌, ◌-◌, ◌*◌, ◌≤◌, ◌<◌}
use native.Mathlib.Omega.{arith}
use lib.ListN.{length, length-map}
use Rattle.columns.proofs.Parts.{five_of_law}
use Rattle.columns.proofs.Rows.{fields_length}
use Rattle.grammar.specs.Refusal.{accepted}
use Rattle.grammar.specs.Rule.{Rule, absent}
use Rattle.grammar.specs.Sheet.{Grammar, lines, line_at, number_at, variables_of, start_of, endmarker_of, variable_at, variable_before, rule_at, malformed, sheet}
use Rattle.grammar.specs.Printing.{header_numbers, rule_numbers, rule_rows, printed, listed_grammar, Rising, Printable, PrintedFrom}
use Rattle.grammar.proofs.Accepted.{LineFits, Describes, Made, some_of, rule_made, describes}
use Rattle.grammar.proofs.Printed.{printed_read}
use Rattle.grammar.proofs.Progress.{before_next}
use Rattle.grammar.proofs.Text.{LinesAt, lines_text_law}

-- ---- The lines of an accepted sheet.

-- The five numbers of a line.
abbrev numbers_at : List ℕ → ℕ → List ℕ
numbers_at s n = number_at s n 0 ∷ number_at s n 1 ∷ number_at s n 2 ∷ number_at s n 3 ∷ number_at s n 4 ∷ []

five_long : (s : List ℕ) (n : ℕ) (xs : List ℕ) → line_at s n ≡ some xs → length xs ≡ 5
unfolding line_at
five_long s n xs e = fields_length 5 5 s (26 * (n - 1)) xs e

numbers_read : (s : List ℕ) (n : ℕ) (xs : List ℕ) → line_at s n ≡ some xs → numbers_at s n ≡ xs
numbers_read s n xs e = let l = five_long s n xs e in rw e (five_of_law xs l)

-- A line of the form is read as these.
five_numbers : (s : List ℕ) (n : ℕ) → malformed s n ≡ false → line_at s n ≡ some (numbers_at s n)
five_numbers s n e =
    let x = some_of (line_at s n) e in
    x.1 ∙ ap some (sym (numbers_read s n x.0 x.1))

module _ (s : List ℕ) where
  -- The rule of a line that fits.
  rule_line : (n : ℕ) → LineFits s n → Made (variables_of s) (number_at s n 1) (number_at s n 2) (number_at s n 3) (number_at s n 4) (get_or (rule_at s n) absent)
  rule_line n f = rw f.rule_is (rule_made (variables_of s) (number_at s n 1) (number_at s n 2) (number_at s n 3) (number_at s n 4) f.rule f.rule_is)

  -- The variables and rules of k lines from line n on.
  unfoldable rules_from : ℕ → ℕ → List (ℕ × Rule)
  rules_from n zero = []
  rules_from n (suc k) = (variable_at s n, get_or (rule_at s n) absent) ∷ rules_from (suc n) k

  -- What lines that fit say.
  record Lined (n k : ℕ) : Type 0 where
    count : length (rules_from n k) ≡ k
    rising : Rising (variables_of s) (variable_before s n) (rules_from n k)
    rows : LinesAt s n (rule_rows (rules_from n k))

  lined : (n k : ℕ) → 2 ≤ n → ((i : ℕ) → i < k → LineFits s (i + n)) → Lined n k
  unfolding rules_from
  lined n zero low fit = record { count = refl; rising = tt; rows = tt }
  lined n (suc k) low fit =
      let z : 0 + n ≡ n = omega arith in
      let here : LineFits s n = rw z at (fit 0 (omega arith)) in
      let made = rule_line n here in
      let variable = here.variable in
      let rest = lined (suc n) k (omega arith) (λ i l. let e : suc i + n ≡ i + suc n = omega arith in subst (LineFits s) e (fit (suc i) (omega arith))) in
      record {
        count = ap suc rest.count;
        rising = (variable.above, variable.high, made.fits, made.present, rw (before_next s n low) at rest.rising);
        rows = (five_numbers s n here.formed ∙ ap some (sym (made.numbers (variable_at s n))), rest.rows);
      }

-- ---- The sheet.

module _ (s : List ℕ) (g : Grammar) (e : sheet s ≡ accepted g) where
  whole : Describes s g
  whole = describes s g e

  abbrev rules : List (ℕ × Rule)
  rules = rules_from s 2 (lines s - 1)

  rule_lines : Lined s 2 (lines s - 1)
  rule_lines = lined s 2 (lines s - 1) (omega arith) whole.fit

  printable : Printable (variables_of s) (start_of s) (endmarker_of s) rules
  printable =
      let r = whole.in_range in
      record { variables_in = r.variables_in; start_in = r.start_in; endmarker_in = r.endmarker_in; rules_in = rule_lines.rising }

  header : line_at s 1 ≡ some (header_numbers (variables_of s) (start_of s) (endmarker_of s))
  header =
      let r = whole.in_range in
      five_numbers s 1 whole.formed ∙ rw (r.fourth_unused, r.fifth_unused)

  prints : s ≡ printed (variables_of s) (start_of s) (endmarker_of s) rules
  unfolding printed
  prints =
      let w = whole.whole in
      let n = length-map rules (λ r. rule_numbers r.0 r.1) in
      let m = rule_lines.count in
      let k : 0 + suc (length (rule_rows rules)) ≡ lines s = omega arith in
      lines_text_law s 0 (header_numbers (variables_of s) (start_of s) (endmarker_of s) ∷ rule_rows rules) (header, rule_lines.rows) (rw k w.full_lines) (rw k w.ended_lines)

  same : listed_grammar (variables_of s) (start_of s) (endmarker_of s) rules ≡ g
  same = let p = printed_read printable in let q = ap sheet prints in cc

  printed_from : PrintedFrom g rules s
  printed_from =
      subst (λ (h : Grammar). PrintedFrom h rules s) same (record { printable = printable; prints = prints; rules_are = λ A. refl })

-- Both ways.
pub accepted_exactly : (s : List ℕ) (g : Grammar) → sheet s ≡ accepted g ↔ ((rules : List (ℕ × Rule)) × PrintedFrom g rules s)
accepted_exactly s g = (
  λ e. (rules s g e, printed_from s g e),
  λ p.
      let q = p.1 in
      ap sheet q.prints ∙ printed_read q.printable
      ∙ ap (λ (f : ℕ → Rule). accepted (record { variables = g.variables; start = g.start; endmarker = g.endmarker; rule = f })) (fun_ext q.rules_are),
)
