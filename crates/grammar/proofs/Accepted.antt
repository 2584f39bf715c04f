-- What an accepted sheet says of its lines and rules. Assumes nothing.
use mathlib.Core.Path.{◌≡◌, refl, sym, subst}
use mathlib.Core.Bool.{Bool, true, false, cond, ◌&&◌, false≢true, and-eq-true_iff, true≢false}
use mathlib.Core.List.{List, [], ◌∷◌}
use mathlib.Core.Option.{Option, none, some, get_or}
use Prim.Native.Nat.{ℕ, zero, suc, ◌+◌, ◌-◌, ◌≤◌, ◌<◌}
use native.Mathlib.Omega.{arith}
use lib.Dec.{eqb}
use borrow.Author.Tests.{eqb-true}
use Rattle.grammar.specs.Refusal.{accepted}
use Rattle.grammar.specs.Rule.{Rule, absent, always, never, byte, class, call, within, unused, fitting, rule_of, Fits}
use Rattle.grammar.specs.Sheet.{Grammar, lines, is_none, variables_of, number_at, variable_at, rule_at, rule_within, grammar_of, malformed, condition, rule_order, sheet_order, sheet}
use Rattle.grammar.specs.Order.{NoneHolds}
use Rattle.grammar.specs.Printing.{rule_numbers}
use Rattle.grammar.proofs.Refusals.{accepted_same, accepted_none}
use Rattle.grammar.proofs.Fitting.{within_bounds}
use Rattle.grammar.proofs.Progress.{VariableFits, not_out}
use Rattle.grammar.proofs.Whole.{Whole, lines_whole, InRange, header_in_range}

-- A rule line that is accepted.
pub record LineFits (s : List ℕ) (n : ℕ) : Type 0 where
  pub formed : malformed s n ≡ false
  pub variable : VariableFits s n
  pub rule : Rule
  pub rule_is : rule_at s n ≡ some rule

pub some_of : {A : Type 0} (o : Option A) → is_none o ≡ false → (a : A) × (o ≡ some a)
some_of none e = absurd (false≢true (sym e))
some_of (some a) e = (a, refl)

lines_fit : (s : List ℕ) (n k : ℕ) → NoneHolds (condition s) (rule_order n k) → (i : ℕ) → i < k → LineFits s (i + n)
unfolding rule_order condition
lines_fit s n zero c i l = absurd (omega arith)
lines_fit s n (suc k) c zero l =
    let e : 0 + n ≡ n = omega arith in
    let r = some_of (rule_at s n) c.1.1.0 in
    rw e (record { formed = c.0; variable = not_out s n c.1.0; rule = r.0; rule_is = r.1 })
lines_fit s n (suc k) c (suc i) l =
    let e : i + suc n ≡ suc i + n = omega arith in
    subst (LineFits s) e (lines_fit s (suc n) k c.1.1.1 i (omega arith))

-- All that an accepted sheet is.
pub record Describes (s : List ℕ) (g : Grammar) : Type 0 where
  pub grammar_is : grammar_of s ≡ g
  pub whole : Whole s
  pub formed : malformed s 1 ≡ false
  pub in_range : InRange s
  pub fit : (i : ℕ) → i < lines s - 1 → LineFits s (i + 2)

pub describes : (s : List ℕ) (g : Grammar) → sheet s ≡ accepted g → Describes s g
unfolding sheet sheet_order condition
describes s g e =
    let c = accepted_none (condition s) (sheet_order s) (grammar_of s) g e in
    record {
      grammar_is = accepted_same (condition s) (sheet_order s) (grammar_of s) g e;
      whole = lines_whole s c.0;
      formed = c.1.0;
      in_range = header_in_range s c.1.1.0;
      fit = lines_fit s 2 (lines s - 1) c.1.1.1;
    }

-- ---- Every rule of an accepted sheet fits.

all_true : (a b c : Bool) → (a && b && c) ≡ true → (a ≡ true) × (b ≡ true) × (c ≡ true)
all_true a b c e = let t = (and-eq-true_iff (a && b) c).0 e in let u = (and-eq-true_iff a b).0 t.0 in (u.0, u.1, t.1)

-- The rule that a kind and three operands make: it fits, and its line has these numbers.
pub record Made (v kind x y z : ℕ) (r : Rule) : Type 0 where
  pub fits : Fits v r
  pub present : r ≡ absent → ⊥
  pub numbers : (A : ℕ) → rule_numbers A r ≡ A ∷ kind ∷ x ∷ y ∷ z ∷ []

module _ (v kind x y z : ℕ) (r : Rule) where
  made : (a b c : Bool) (q : Rule) → (a ≡ true → b ≡ true → c ≡ true → Made v kind x y z q) → fitting (a && b && c) q ≡ some r → Made v kind x y z r
  made a b c q f e = go (a && b && c) refl e
    where
      go : (t : Bool) → (a && b && c) ≡ t → fitting t q ≡ some r → Made v kind x y z r
      go true p h = let same : q ≡ r = cc in let t = all_true a b c p in subst (Made v kind x y z) same (f t.0 t.1 t.2)
      go false p h = absurd (true≢false (cc))

  pub rule_made : rule_of v kind x y z ≡ some r → Made v kind x y z r
  unfolding rule_of
  rule_made e = go (eqb kind 0) (eqb kind 1) (eqb kind 2) (eqb kind 3) (eqb kind 4) refl refl refl refl refl e
    where
      none_used : (a : ℕ) → unused x ≡ true → unused y ≡ true → unused z ≡ true → a ≡ kind → (A : ℕ) → A ∷ a ∷ 0 ∷ 0 ∷ 0 ∷ [] ≡ A ∷ kind ∷ x ∷ y ∷ z ∷ []
      none_used a p q s k A = let i = eqb-true x 0 p in let j = eqb-true y 0 q in let l = eqb-true z 0 s in cc

      one_used : (a : ℕ) → unused y ≡ true → unused z ≡ true → a ≡ kind → (A : ℕ) → A ∷ a ∷ x ∷ 0 ∷ 0 ∷ [] ≡ A ∷ kind ∷ x ∷ y ∷ z ∷ []
      one_used a q s k A = let j = eqb-true y 0 q in let l = eqb-true z 0 s in cc

      go : (a b c d f : Bool) → eqb kind 0 ≡ a → eqb kind 1 ≡ b → eqb kind 2 ≡ c → eqb kind 3 ≡ d → eqb kind 4 ≡ f →
          cond a (fitting (unused x && unused y && unused z) always)
          (cond b (fitting (unused x && unused y && unused z) never)
          (cond c (fitting (within 0 255 x && unused y && unused z) (byte x))
          (cond d (fitting (within 1 6 x && unused y && unused z) (class x))
          (cond f (fitting (within 1 v x && within 1 v y && within 1 v z) (call x y z)) none)))) ≡ some r → Made v kind x y z r
      go true b c d f k l m n o e =
          made (unused x) (unused y) (unused z) always
          (λ p q s. record { fits = tt; present = λ t. true≢false (cc); numbers = none_used 0 p q s (sym (eqb-true kind 0 k)) }) e
      go false true c d f k l m n o e =
          made (unused x) (unused y) (unused z) never
          (λ p q s. record { fits = tt; present = λ t. true≢false (cc); numbers = none_used 1 p q s (sym (eqb-true kind 1 l)) }) e
      go false false true d f k l m n o e =
          made (within 0 255 x) (unused y) (unused z) (byte x)
          (λ p q s. record { fits = (within_bounds 0 255 x p).1; present = λ t. true≢false (cc); numbers = one_used 2 q s (sym (eqb-true kind 2 m)) }) e
      go false false false true f k l m n o e =
          made (within 1 6 x) (unused y) (unused z) (class x)
          (λ p q s. record { fits = within_bounds 1 6 x p; present = λ t. true≢false (cc); numbers = one_used 3 q s (sym (eqb-true kind 3 n)) }) e
      go false false false false true k l m n o e =
          made (within 1 v x) (within 1 v y) (within 1 v z) (call x y z)
          (λ p q s.
          let b = within_bounds 1 v x p in
          let c = within_bounds 1 v y q in
          let d = within_bounds 1 v z s in
          let i = eqb-true kind 4 o in
          record { fits = (b.0, b.1, c.0, c.1, d.0, d.1); present = λ t. true≢false (cc); numbers = λ A. cc })
          e
      go false false false false false k l m n o e = absurd (true≢false (cc))

-- The rule of a variable fits, and a variable that is none of 1 to V has no rule.
module _ (s : List ℕ) (fit : (i : ℕ) → i < lines s - 1 → LineFits s (i + 2)) where
  within_fits : (k A : ℕ) → k ≤ lines s - 1 → Fits (variables_of s) (rule_within s k A)
  unfolding rule_within
  within_fits zero A l = tt
  within_fits (suc k) A l = go (eqb A (variable_at s (k + 2))) (within_fits k A (omega arith))
    where
      here : LineFits s (k + 2)
      here = fit k (omega arith)

      go : (t : Bool) → Fits (variables_of s) (rule_within s k A) → Fits (variables_of s) (cond t (get_or (rule_at s (k + 2)) absent) (rule_within s k A))
      go true f =
          rw here.rule_is (rule_made (variables_of s) (number_at s (k + 2) 1) (number_at s (k + 2) 2) (number_at s (k + 2) 3) (number_at s (k + 2) 4) here.rule here.rule_is).fits
      go false f = f

  within_absent : (k A : ℕ) → k ≤ lines s - 1 → ((1 ≤ A) × (A ≤ variables_of s) → ⊥) → rule_within s k A ≡ absent
  unfolding rule_within
  within_absent zero A l n = refl
  within_absent (suc k) A l n = go (eqb A (variable_at s (k + 2))) refl (within_absent k A (omega arith) n)
    where
      here : LineFits s (k + 2)
      here = fit k (omega arith)

      go : (t : Bool) → eqb A (variable_at s (k + 2)) ≡ t → rule_within s k A ≡ absent → cond t (get_or (rule_at s (k + 2)) absent) (rule_within s k A) ≡ absent
      go true e f = absurd (let q = eqb-true A (variable_at s (k + 2)) e in let v = here.variable in n (omega arith, omega arith))
      go false e f = f

pub grammar_fits : (s : List ℕ) (g : Grammar) → sheet s ≡ accepted g → (A : ℕ) → Fits g.variables (g.rule A)
grammar_fits s g e A =
    let p = describes s g e in
    subst (λ (h : Grammar). Fits h.variables (h.rule A)) p.grammar_is (within_fits s p.fit (lines s - 1) A (omega arith))

pub grammar_absent : (s : List ℕ) (g : Grammar) → sheet s ≡ accepted g → (A : ℕ) → ((1 ≤ A) × (A ≤ g.variables) → ⊥) → g.rule A ≡ absent
grammar_absent s g e A n =
    let p = describes s g e in
    subst (λ (h : Grammar). ((1 ≤ A) × (A ≤ h.variables) → ⊥) → h.rule A ≡ absent) p.grammar_is (within_absent s p.fit (lines s - 1) A (omega arith)) n

-- V is 1 to 256, and the start variable is one of them.
pub grammar_in_range : (s : List ℕ) (g : Grammar) → sheet s ≡ accepted g → (1 ≤ g.variables) × (g.variables ≤ 256) × (1 ≤ g.start) × (g.start ≤ g.variables)
grammar_in_range s g e =
    let p = describes s g e in
    let r = p.in_range in
    subst (λ (h : Grammar). (1 ≤ h.variables) × (h.variables ≤ 256) × (1 ≤ h.start) × (h.start ≤ h.variables)) p.grammar_is
    (r.variables_in.0, r.variables_in.1, r.start_in.0, r.start_in.1)
