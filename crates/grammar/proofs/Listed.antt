-- The rules that have lines, for the reader of the sheet: rising, each as it was, and the same from words. Assumes nothing.
use mathlib.Core.Bool.{Bool, true, false, cond, false≢true}
use mathlib.Core.List.{◌∷◌}
use mathlib.Core.Path.{◌≡◌, refl, sym, ap, ◌∙◌}
use Prim.Native.Nat.{ℕ, zero, suc, ◌+◌, ◌≤◌, ◌<◌}
use native.Mathlib.Omega.{arith}
use lib.Dec.{eqb}
use borrow.Author.Tests.{eqb-true, eqb-false, ne_eqb}
use Rattle.grammar.specs.Printing.{listed, Rising, is_absent, rules_from, rules_of}
use Rattle.grammar.specs.Rule.{Rule, absent, always, never, byte, class, call, Fits}
use Rattle.grammar.specs.Words.{word, words, rule_for, rule_in}
use Rattle.grammar.proofs.Held.{rule_for_word, fits_more}
use Rattle.grammar.proofs.Words.{word_at}

-- No rule, by the test, is no rule.
absent_is : (r : Rule) → is_absent r ≡ true → r ≡ absent
absent_is absent e = refl
absent_is always e = absurd (false≢true e)
absent_is never e = absurd (false≢true e)
absent_is (byte b) e = absurd (false≢true e)
absent_is (class c) e = absurd (false≢true e)
absent_is (call B C D) e = absurd (false≢true e)

-- The variables rise.
rising : (rule : ℕ → Rule) (v k A before : ℕ) → k + A ≤ v → before ≤ A → ((X : ℕ) → 1 ≤ X → X ≤ v → Fits v (rule X)) → Rising v before (rules_from rule k (suc A))
unfolding rules_from
rising rule v zero A before l u fits = tt
rising rule v (suc k) A before l u fits = go (is_absent (rule (suc A))) refl (λ b w. rising rule v k (suc A) b (omega arith) w fits)
  where
    go : (t : Bool) → is_absent (rule (suc A)) ≡ t → ((b : ℕ) → b ≤ suc A → Rising v b (rules_from rule k (suc (suc A))))
        → Rising v before (cond t (rules_from rule k (suc (suc A))) ((suc A, rule (suc A)) ∷ rules_from rule k (suc (suc A))))
    go true e r = r before (omega arith)
    go false e r = (omega arith, omega arith, fits (suc A) (omega arith) (omega arith), (λ w. false≢true (sym e ∙ ap is_absent w)), r (suc A) (omega arith))

pub rules_rising : (rule : ℕ → Rule) (v : ℕ) → ((X : ℕ) → 1 ≤ X → X ≤ v → Fits v (rule X)) → Rising v 0 (rules_of v rule)
rules_rising rule v fits = rising rule v v 0 0 (omega arith) (omega arith) fits

-- Each variable has its rule.
listed_below : (rule : ℕ → Rule) (k A X : ℕ) → X < A → listed (rules_from rule k A) X ≡ absent
unfolding rules_from listed
listed_below rule zero A X l = refl
listed_below rule (suc k) A X l = go (is_absent (rule A)) (listed_below rule k (suc A) X (omega arith))
  where
    go : (t : Bool) → listed (rules_from rule k (suc A)) X ≡ absent → listed (cond t (rules_from rule k (suc A)) ((A, rule A) ∷ rules_from rule k (suc A))) X ≡ absent
    go true r = r
    go false r = rw (ne_eqb X A (λ e. omega arith)) r

listed_from : (rule : ℕ → Rule) (k A X : ℕ) → A ≤ X → X < A + k → listed (rules_from rule k A) X ≡ rule X
unfolding rules_from listed
listed_from rule zero A X l u = absurd (omega arith)
listed_from rule (suc k) A X l u = go (is_absent (rule A)) (eqb X A) refl refl (λ w. listed_from rule k (suc A) X w (omega arith))
  where
    later : (X ≡ A → ⊥) → suc A ≤ X
    later n = omega arith

    go : (t w : Bool) → is_absent (rule A) ≡ t → eqb X A ≡ w → (suc A ≤ X → listed (rules_from rule k (suc A)) X ≡ rule X)
        → listed (cond t (rules_from rule k (suc A)) ((A, rule A) ∷ rules_from rule k (suc A))) X ≡ rule X
    go true true e p r =
        let q = eqb-true X A p in
        listed_below rule k (suc A) X (omega arith) ∙ sym (absent_is (rule A) e) ∙ ap rule (sym q)
    go true false e p r = r (later (eqb-false X A p))
    go false true e p r = let q = eqb-true X A p in rw p (ap rule (sym q))
    go false false e p r = rw p (r (later (eqb-false X A p)))

pub rules_listed : (rule : ℕ → Rule) (v X : ℕ) → 1 ≤ X → X ≤ v → listed (rules_of v rule) X ≡ rule X
rules_listed rule v X l u = listed_from rule v 1 X l (omega arith)

-- Rules that agree on the variables have the same lines.
same_rules : (f g : ℕ → Rule) (k A : ℕ) → ((X : ℕ) → A ≤ X → X < A + k → f X ≡ g X) → rules_from f k A ≡ rules_from g k A
unfolding rules_from
same_rules f g zero A e = refl
same_rules f g (suc k) A e =
    rw (e A (omega arith) (omega arith), same_rules f g k (suc A) (λ X l u. e X (omega arith) (omega arith)))

-- The rule that is read back from a word.
rule_of_word : (rule : ℕ → Rule) (X : ℕ) → 1 ≤ X → X ≤ 256 → Fits 256 (rule X) → rule_in (words rule) X ≡ rule X
rule_of_word rule zero l u fits = absurd (omega arith)
rule_of_word rule (suc i) l u fits =
    let z : 1 + i ≡ suc i = omega arith in
    ap rule_for (word_at 256 1 rule i (omega arith) ∙ ap (λ (X : ℕ). word (rule X)) z) ∙ rule_for_word (rule (suc i)) fits

-- What is printed from the words of rules that fit is what is printed from the rules.
pub rules_of_words : (rule : ℕ → Rule) (v : ℕ) → v ≤ 256 → ((X : ℕ) → 1 ≤ X → X ≤ v → Fits v (rule X)) → rules_of v (rule_in (words rule)) ≡ rules_of v rule
rules_of_words rule v few fits =
    same_rules (rule_in (words rule)) rule v 1 (λ X l u. rule_of_word rule X l (omega arith) (fits_more v (rule X) few (fits X l (omega arith))))
