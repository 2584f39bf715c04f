-- The array of words holds the rules of an accepted sheet. Assumes nothing.
use mathlib.Core.Path.{◌≡◌, refl, ap, sym, ◌∙◌, fun_ext}
use mathlib.Core.List.{List}
use Prim.Native.Nat.{ℕ, zero, suc, ◌+◌, ◌-◌, ◌/◌, ◌%◌, ◌≤◌, ◌<◌}
use native.Mathlib.Omega.{arith}
use native.Mathlib.Decide.{dec_lt}
use lib.ListN.{length, get_or-eq_default}
use Rattle.grammar.specs.Refusal.{accepted}
use Rattle.grammar.specs.Rule.{Rule, absent, always, never, byte, class, call, Fits}
use Rattle.grammar.specs.Sheet.{Grammar, sheet}
use Rattle.grammar.specs.Words.{four_bytes, word, words, rule_for, rule_in}
use Rattle.grammar.proofs.Words.{words_length, word_at}
use Rattle.grammar.proofs.Accepted.{grammar_fits, grammar_absent, grammar_in_range}

-- The bytes of a word.
module _ (a b c d : ℕ) (lb : b ≤ 255) (lc : c ≤ 255) (ld : d ≤ 255) where
  highest : four_bytes a b c d / 16777216 ≡ a
  highest = omega arith

  second : four_bytes a b c d / 65536 % 256 ≡ b
  second = omega arith

  third : four_bytes a b c d / 256 % 256 ≡ c
  third = omega arith

  lowest : four_bytes a b c d % 256 ≡ d
  lowest = omega arith

-- The word of a rule that fits is that rule's.
pub rule_for_word : (r : Rule) → Fits 256 r → rule_for (word r) ≡ r
unfolding rule_for
rule_for_word absent f = refl
rule_for_word always f = refl
rule_for_word never f = refl
rule_for_word (byte b) f = rw (highest 3 b 0 0 f (omega arith) (omega arith), second 3 b 0 0 f (omega arith) (omega arith))
rule_for_word (class c) f =
    let h : c ≤ 255 = omega arith in
    rw (highest 4 c 0 0 h (omega arith) (omega arith), second 4 c 0 0 h (omega arith) (omega arith))
rule_for_word (call B C D) f =
    let x : B - 1 ≤ 255 = omega arith in
    let y : C - 1 ≤ 255 = omega arith in
    let z : D - 1 ≤ 255 = omega arith in
    let p : B - 1 + 1 ≡ B = omega arith in
    let q : C - 1 + 1 ≡ C = omega arith in
    let r : D - 1 + 1 ≡ D = omega arith in
    rw (highest 5 (B - 1) (C - 1) (D - 1) x y z, second 5 (B - 1) (C - 1) (D - 1) x y z, third 5 (B - 1) (C - 1) (D - 1) x y z, lowest 5 (B - 1) (C - 1) (D - 1) x y z, p, q, r)

pub fits_more : (v : ℕ) (r : Rule) → v ≤ 256 → Fits v r → Fits 256 r
fits_more v absent l f = tt
fits_more v always l f = tt
fits_more v never l f = tt
fits_more v (byte b) l f = f
fits_more v (class c) l f = f
fits_more v (call B C D) l f = omega arith

-- The rules that are read back from the array are those of the sheet.
pub rules_held : (s : List ℕ) (g : Grammar) → sheet s ≡ accepted g → rule_in (words g.rule) ≡ g.rule
unfolding rule_for
rules_held s g e = fun_ext (λ A. go A)
  where
    bounds : (1 ≤ g.variables) × (g.variables ≤ 256) × (1 ≤ g.start) × (g.start ≤ g.variables)
    bounds = grammar_in_range s g e

    inside : (i : ℕ) → Dec (i < 256) → rule_in (words g.rule) (suc i) ≡ g.rule (suc i)
    inside i (yes l) =
        let z : 1 + i ≡ suc i = omega arith in
        ap rule_for (word_at 256 1 g.rule i l ∙ ap (λ (X : ℕ). word (g.rule X)) z)
        ∙ rule_for_word (g.rule (suc i)) (fits_more g.variables (g.rule (suc i)) bounds.1 (grammar_fits s g e (suc i)))
    inside i (no n) =
        let b = bounds in
        let m : 256 ≤ i = omega arith in
        let l : length (words g.rule) ≤ i = omega (arith, words_length 256 1 g.rule) in
        ap rule_for (get_or-eq_default (words g.rule) 0 l) ∙ sym (grammar_absent s g e (suc i) (λ h. omega arith))

    go : (A : ℕ) → rule_in (words g.rule) A ≡ g.rule A
    go zero = sym (grammar_absent s g e 0 (λ h. omega arith))
    go (suc i) = inside i (dec_lt i 256)
