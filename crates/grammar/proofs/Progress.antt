-- What is so before each rule line is read. Assumes nothing.
use mathlib.Core.Path.{◌≡◌, refl, ap, sym, ◌∙◌}
use mathlib.Core.Bool.{false, not}
use mathlib.Core.List.{List, [], ◌∷◌}
use mathlib.Core.Option.{get_or}
use Prim.Native.Nat.{ℕ, suc, ◌+◌, ◌-◌, ◌≤◌, ◌<◌}
use native.Mathlib.Omega.{arith}
use lib.ListN.{set}
use borrow.Author.Tests.{ne_eqb, eq-eqb, leb-false, not-false}
use Rattle.grammar.specs.Refusal.{Checked, refused, accepted, checked}
use Rattle.grammar.specs.Rule.{absent, within}
use Rattle.grammar.specs.Sheet.{lines, variables_of, variable_at, variable_before, rule_at, rule_within, variable_out, condition, line_order, rule_order}
use Rattle.grammar.specs.Words.{word, words}
use Rattle.grammar.specs.Reading.{line_found, rules_found, Ready}
use Rattle.grammar.proofs.Refusals.{then, accepted_same, accepted_none, checked_then}
use Rattle.grammar.proofs.Fitting.{neither_true, within_bounds}
use Rattle.grammar.proofs.Words.{words_set}

-- What k lines from line n on make of the sheet.
abbrev pub remaining : List ℕ → ℕ → ℕ → Checked (Unit {0})
remaining s n k = checked (condition s) (rule_order n k) tt

-- Before line n, of as many lines as count: the rules of the lines before it are stored, and it is for the lines from n on to refuse.
pub record Progress (s : List ℕ) (count : ℕ) (stored : List ℕ) (n before : ℕ) : Type 0 where
  pub low : 2 ≤ n
  pub high : n ≤ count + 1
  pub before_is : before ≡ variable_before s n
  pub rules_are : stored ≡ words (rule_within s (n - 2))
  pub rest : remaining s n (count + 1 - n) ≡ rules_found s

-- A line that is accepted with the variable A and the word w.
pub record Accepted (s : List ℕ) (n A w : ℕ) : Type 0 where
  pub variable_is : A ≡ variable_at s n
  pub variable_in : (1 ≤ A) × (A ≤ variables_of s)
  pub word_is : w ≡ word (get_or (rule_at s n) absent)
  pub onward : (k : ℕ) → remaining s n (suc k) ≡ remaining s (suc n) k

-- A variable that is accepted.
pub record VariableFits (s : List ℕ) (n : ℕ) : Type 0 where
  pub above : variable_before s n < variable_at s n
  pub low : 1 ≤ variable_at s n
  pub high : variable_at s n ≤ variables_of s

pub not_out : (s : List ℕ) (n : ℕ) → variable_out s n ≡ false → VariableFits s n
unfolding variable_out
not_out s n e =
    let t = neither_true (not (within 1 (variables_of s) (variable_at s n))) _ e in
    let b = within_bounds 1 (variables_of s) (variable_at s n) (not-false _ t.0) in
    record { above = leb-false (variable_at s n) (variable_before s n) t.1; low = b.0; high = b.1 }

-- One line, and then those behind it.
remaining_more : (s : List ℕ) (n k : ℕ) → remaining s n (suc k) ≡ then (line_found s n) (remaining s (suc n) k)
unfolding rule_order line_found
remaining_more s n k = checked_then (condition s) (line_order n) (rule_order (suc n) k) _ tt

pub line_accepted : (s : List ℕ) (n A w : ℕ) → accepted (A ∷ w ∷ []) ≡ line_found s n → Accepted s n A w
unfolding line_found condition
line_accepted s n A w e =
    let same = accepted_same (condition s) (line_order n) _ (A ∷ w ∷ []) (sym e) in
    let u : A ≡ variable_at s n = cc in
    let i = not_out s n (accepted_none (condition s) (line_order n) _ (A ∷ w ∷ []) (sym e)).1.0 in
    record { variable_is = u; variable_in = (omega arith, omega arith); word_is = cc; onward = λ k. remaining_more s n k ∙ rw (← e) }

pub line_refused : (s : List ℕ) (n x l k : ℕ) → refused x l ≡ line_found s n → refused x l ≡ remaining s n (suc k)
line_refused s n x l k e = sym (remaining_more s n k ∙ rw (← e))

-- ---- The beginning, a step, and the end.

-- The variable before the next line is this line's.
pub before_next : (s : List ℕ) (n : ℕ) → 2 ≤ n → variable_before s (suc n) ≡ variable_at s n
before_next s n low =
    let e : suc n - 1 ≡ n = omega arith in
    rw (ne_eqb (suc n) 2 (λ z. omega arith), e)

pub begins : (s : List ℕ) (variables count : ℕ) (stored : List ℕ) → Ready s variables count stored → Progress s count stored 2 0
unfolding rules_found rule_within
begins s variables count stored r =
    let c = r.count_is in
    let m = r.count_some in
    let e : count + 1 - 2 ≡ lines s - 1 = omega arith in
    record {
      low = omega arith;
      high = omega arith;
      before_is = refl;
      rules_are = r.blank;
      rest = ap (λ (k : ℕ). remaining s 2 k) e;
    }

rule_here : (s : List ℕ) (k n A : ℕ) → k + 2 ≡ n → A ≡ variable_at s n → rule_within s (suc k) A ≡ get_or (rule_at s n) absent
unfolding rule_within
rule_here s k n A e f = rw (e, eq-eqb A (variable_at s n) f)

rule_other : (s : List ℕ) (k n A X : ℕ) → k + 2 ≡ n → A ≡ variable_at s n → (X ≡ A → ⊥) → rule_within s (suc k) X ≡ rule_within s k X
unfolding rule_within
rule_other s k n A X e f d = rw (e, ne_eqb X (variable_at s n) (λ q. d (q ∙ sym f)))

pub goes_on : (s : List ℕ) (count : ℕ) (stored : List ℕ) (n before A w : ℕ) → variables_of s ≤ 256 → n ≤ count → Progress s count stored n before → Accepted s n A w
    → Progress s count (set stored (A - 1) w) (n + 1) A
goes_on s count stored n before A w few l p a =
    let low = p.low in
    let k : ℕ = n - 2 in
    let i = a.variable_in in
    let e₁ : n + 1 - 2 ≡ suc k = omega arith in
    let e₂ : k + 2 ≡ n = omega arith in
    let e₃ : n + 1 ≡ suc n = omega arith in
    let e₄ : count + 1 - n ≡ suc (count + 1 - (n + 1)) = omega arith in
    record {
      low = omega arith;
      high = omega arith;
      before_is = a.variable_is ∙ sym (ap (variable_before s) e₃ ∙ before_next s n low);
      rules_are =
          ap (λ (ws : List ℕ). set ws (A - 1) w) p.rules_are
          ∙ words_set (rule_within s k) (rule_within s (suc k)) A w (omega arith) (omega arith)
          (a.word_is ∙ ap word (sym (rule_here s k n A e₂ a.variable_is))) (λ X d. rule_other s k n A X e₂ a.variable_is d)
          ∙ ap (λ (j : ℕ). words (rule_within s j)) (sym e₁);
      rest =
          ap (λ (j : ℕ). remaining s j (count + 1 - (n + 1))) e₃ ∙ sym (a.onward (count + 1 - (n + 1))) ∙ sym (ap (remaining s n) e₄) ∙ p.rest;
    }

pub ends : (s : List ℕ) (count : ℕ) (stored : List ℕ) (n before : ℕ) → count ≡ lines s → count < n → Progress s count stored n before
    → (accepted tt ≡ rules_found s) × (stored ≡ words (rule_within s (lines s - 1)))
unfolding checked rule_order
ends s count stored n before c l p =
    let low = p.low in
    let high = p.high in
    let e : count + 1 - n ≡ 0 = omega arith in
    let f : n - 2 ≡ lines s - 1 = omega arith in
    (sym (ap (λ (j : ℕ). remaining s n j) e) ∙ p.rest, p.rules_are ∙ ap (λ (j : ℕ). words (rule_within s j)) f)
