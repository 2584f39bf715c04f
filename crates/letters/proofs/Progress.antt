-- The letters of a text, byte by byte. Assumes nothing.
use mathlib.Core.Bool.{Bool, true, false, cond}
use mathlib.Core.List.{List, [], ◌∷◌, ◌++◌}
use mathlib.Core.Logic.{◌≢◌}
use mathlib.Core.Path.{◌≡◌, refl, sym, ap, ◌∙◌, subst}
use Prim.Native.Nat.{ℕ, zero, suc, ◌+◌, ◌-◌, ◌≤◌, ◌<◌}
use native.Mathlib.Numerals.{add-one}
use native.Mathlib.Omega.{arith}
use lib.Dec.{eqb}
use lib.ListN.{length, get_or, drop, replicate, get_or-replicate, length-replicate}
use lib.Seq.{drop-cons}
use borrow.Author.Tests.{eqb-true, eqb-false, eq-eqb, ne_eqb}
use Rattle.notation.specs.Capitals.{capitals, number_in}
use Rattle.notation.specs.Text.{among, capital, firsts}
use Rattle.notation.proofs.Found.{Found, found_none, found_all, found_skipped, found_quote, found_other, found_again, found_new, found_few}
use Rattle.letters.specs.Numbering.{Numbers, Adds, bytes_left, letters_with, Passes}
use Rattle.letters.specs.declared.Numbering.{Numbering}
use Rattle.letters.proofs.Lettered.{index_in}

-- ---- One byte.

left_fewer : (k b : ℕ) → 0 < k → k - 1 ≡ bytes_left k b
left_fewer zero b l = absurd (omega arith)
left_fewer (suc k) b l = omega arith

with_none : (k b : ℕ) (xs : List ℕ) → 0 < k → letters_with k xs b ≡ xs
with_none zero b xs l = absurd (omega arith)
with_none (suc k) b xs l = refl

at_zero : (from : Numbering) → from.skip ≤ 0 → from.skip ≡ 0
at_zero from l = omega arith

module _ (b : ℕ) (from : Numbering) {numbers : List ℕ} where
  -- Behind a quote,
  pub passes_over : 0 < from.skip → Passes b from numbers (record { count = from.count; skip = from.skip - 1 }) numbers
  passes_over l = record { skips = left_fewer from.skip b l; numbered = λ xs n. rw (with_none from.skip b xs l) n }

  module _ (none : from.skip ≤ 0) where
    -- a quote,
    pub passes_quote : b ≡ 39 → Passes b from numbers (record { count = from.count; skip = 2 }) numbers
    passes_quote e = record { skips = rw (at_zero from none, eq-eqb b 39 e) refl; numbered = λ xs n. rw (at_zero from none, eq-eqb b 39 e) n }

    -- a letter,
    pub passes_letter : b ≢ 39 → capital b ≡ true → {numbers' : List ℕ} {count : ℕ} → Adds b numbers from.count numbers' count
        → Passes b from numbers (record { count = count; skip = 0 }) numbers'
    passes_letter d known adds = record { skips = rw (at_zero from none, ne_eqb b 39 d) refl; numbered = λ xs n. rw (at_zero from none, ne_eqb b 39 d, known) (adds xs n) }

    -- and any other byte.
    pub passes_other : b ≢ 39 → capital b ≡ false → Passes b from numbers (record { count = from.count; skip = 0 }) numbers
    passes_other d other = record { skips = rw (at_zero from none, ne_eqb b 39 d) refl; numbered = λ xs n. rw (at_zero from none, ne_eqb b 39 d, other) n }

-- ---- The text up to a position.

-- No letter has a number yet.
numbers_none : {numbers : List ℕ} → numbers ≡ replicate 26 0 → Numbers [] numbers 0
unfolding number_in
numbers_none e = record {
  counted = refl;
  size = rw e (length-replicate {A = ℕ} 26 0);
  held = λ A known. rw e (get_or-replicate 26 (A - 65) 0 0 (index_in A known).1);
}

-- The letters so far, with those behind the position, are those of the whole text.
pub record Progress (s : List ℕ) (at skip count : ℕ) (numbers : List ℕ) : Type 0 where
  pub inside : at ≤ length s
  pub so_far : List ℕ
  pub numbered : Numbers so_far numbers count
  pub found : Found so_far skip (drop at s) s

pub few : {s : List ℕ} {at skip count : ℕ} {numbers : List ℕ} → Progress s at skip count numbers → count ≤ 26
few p = let f = found_few p.found in let c = p.numbered.counted in omega arith

pub begins : (s : List ℕ) {numbers : List ℕ} → numbers ≡ replicate 26 0 → Progress s 0 0 0 numbers
begins s e = record { inside = omega arith; so_far = []; numbered = numbers_none e; found = found_none s }

next : (xs s : List ℕ) (skip b : ℕ) (t : List ℕ) → Found xs skip (b ∷ t) s → Found (letters_with skip xs b) (bytes_left skip b) t s
next xs s (suc k) b t f = found_skipped f
next xs s zero b t f = by_byte (eqb b 39) (capital b) (among b xs) refl refl refl
  where
    by_byte : (u w z : Bool) → eqb b 39 ≡ u → capital b ≡ w → among b xs ≡ z
        → Found (cond u xs (cond w (cond z xs (xs ++ b ∷ [])) xs)) (cond u 2 0) t s
    by_byte true w z p q r = found_quote (eqb-true b 39 p) f
    by_byte false true true p q r = found_again q r f
    by_byte false true false p q r = found_new q r f
    by_byte false false z p q r = found_other (eqb-false b 39 p) q f

pub goes_on : (s : List ℕ) (at : ℕ) (from to : Numbering) (numbers numbers' : List ℕ) → at < length s → Progress s at from.skip from.count numbers
    → Passes (get_or s at 0) from numbers to numbers' → Progress s (at + 1) to.skip to.count numbers'
goes_on s at from to numbers numbers' l p q =
    let e : drop at s ≡ get_or s at 0 ∷ drop (at + 1) s = drop-cons s at 0 l ∙ ap (λ k. get_or s at 0 ∷ drop k s) (sym (add-one at)) in
    record {
      inside = omega arith;
      so_far = letters_with from.skip p.so_far (get_or s at 0);
      numbered = q.numbered p.so_far p.numbered;
      found = rw q.skips (next p.so_far s from.skip (get_or s at 0) (drop (at + 1) s) (subst (λ w. Found p.so_far from.skip w s) e p.found));
    }

drop_all : (s : List ℕ) → drop (length s) s ≡ []
drop_all [] = refl
drop_all (b ∷ s) = drop_all s

pub ends : (s : List ℕ) (at skip count : ℕ) (numbers : List ℕ) → length s ≤ at → Progress s at skip count numbers → Numbers (firsts [] (capitals s)) numbers count
ends s at skip count numbers l p =
    let i = p.inside in
    let e : at ≡ length s = omega arith in
    let d : drop at s ≡ [] = ap (λ k. drop k s) e ∙ drop_all s in
    rw (← found_all (subst (λ w. Found p.so_far skip w s) d p.found)) p.numbered
