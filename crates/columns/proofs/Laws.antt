-- How the columns of a field are read one by one. Assumes nothing.
use mathlib.Core.Path.{◌≡◌, refl, sym, ap, ◌∙◌}
use mathlib.Core.Bool.{Bool, true, false, not, cond, ◌&&◌}
use mathlib.Core.List.{List, [], ◌∷◌}
use mathlib.Core.Logic.{◌≢◌}
use mathlib.Core.Option.{Option, none, some, map}
use Prim.Native.Nat.{ℕ, zero, suc, ◌+◌, ◌-◌, ◌*◌, ◌^◌, ◌≤◌, ◌<◌}
use native.Mathlib.Decide.{ℕ_discrete}
use native.Mathlib.Omega.{arith}
use native.Mathlib.Nat.{pow-succ', pow-le-pow_right}
use native.Mathlib.Numerals.{add-one}
use lib.Dec.{lit<, eqb, leb, ltb}
use lib.ListN.{length, get_or, take, drop, drop_of_length-le, length-drop}
use lib.Seq.{drop-cons, drop-nil, slice, take_all, get_or-drop}
use borrow.Author.Tests.{eq-eqb, ne_eqb, le-leb, lt-leb, leb-true, ltb-false}
use Rattle.std.proofs.Common.{Some, None}
use Rattle.std.proofs.lemmas.Option.{cond_some}
use Rattle.std.proofs.lemmas.List.Sums.{fails_before_first}
use Rattle.std.proofs.lemmas.List.Quantifiers.{position-Some}
use Rattle.std.specs.Bool.{then_some}
use Rattle.std.specs.List.{position, position_or_len}
use Rattle.columns.specs.Column.{number, digits_after, field, reads}
use Rattle.columns.specs.Scan.{held, digit_of}

-- What the tests say.
pub untrue : {t : Bool} → t ≡ true → t ≡ false → ⊥
untrue e h = let f = ap (λ (t : Bool). cond {A = ℕ} t 1 0) (sym e ∙ h) in omega arith

both : (t u : Bool) → (t && u) ≡ true → (t ≡ true) × (u ≡ true)
both true u h = (refl, h)
both false u h = absurd (untrue h refl)

pub among_bounds : (low high b : ℕ) → (leb low b && leb b high) ≡ true → (low ≤ b) × (b ≤ high)
among_bounds low high b h =
    let k = both (leb low b) (leb b high) h in
    (leb-true low b k.0, leb-true b high k.1)

-- What the answer about a byte says.
pub shown : {t : Bool} {v x : ℕ} → Some x ≡ cond t (Some v) None → (t ≡ true) × (v ≡ x)
shown {t} {v} {x} h = cond_some t v x (sym h)

pub not_shown : (t : Bool) (v : ℕ) → None ≡ cond t (Some v) None → t ≡ false
not_shown true v h = cc
not_shown false v h = refl

pub digit_small : (b : ℕ) {x : ℕ} → Some x ≡ digit_of b → x < 10
digit_small b p = let k = shown p in let m = among_bounds 48 57 b k.0 in omega arith

-- A digit in front goes to the number before it; a byte that is none is a fault.
pub digit_on : (v b : ℕ) (bs : List ℕ) {x : ℕ} → Some x ≡ digit_of b → digits_after v (b ∷ bs) ≡ digits_after (10 * v + x) bs
unfolding digits_after
digit_on v b bs p = let k = shown p in rw (k.0, k.1)

digit_off : (v b : ℕ) (bs : List ℕ) → None ≡ digit_of b → digits_after v (b ∷ bs) ≡ none
unfolding digits_after
digit_off v b bs p = let e = not_shown (leb 48 b && leb b 57) (b - 48) p in rw e

-- The columns from i on begin with the byte there.
next_column : (s : List ℕ) (i : ℕ) → i < length s → drop i s ≡ get_or s i 0 ∷ drop (i + 1) s
next_column s i h = rw (add-one i) (drop-cons s i 0 h)

pub digit_read : (s : List ℕ) (i v : ℕ) {x : ℕ} → i < length s → Some x ≡ digit_of (get_or s i 0)
    → digits_after (10 * v + x) (drop (i + 1) s) ≡ digits_after v (drop i s)
digit_read s i v h p = sym (ap (digits_after v) (next_column s i h) ∙ digit_on v (get_or s i 0) (drop (i + 1) s) p)

pub digit_fault : (s : List ℕ) (i v : ℕ) → i < length s → None ≡ digit_of (get_or s i 0) → none ≡ digits_after v (drop i s)
digit_fault s i v h p = sym (ap (digits_after v) (next_column s i h) ∙ digit_off v (get_or s i 0) (drop (i + 1) s) p)

-- Where no column is left, the number stands.
pub all_read : (s : List ℕ) (i v : ℕ) → length s ≤ i → some v ≡ digits_after v (drop i s)
unfolding digits_after
all_read s i v h = rw (drop_of_length-le s h)

-- One digit more is a power of ten more, and seven digits are below 10,000,000.
pub power_step : (v d i : ℕ) → v < 10 ^ i → d < 10 → 10 * v + d < 10 ^ (i + 1)
power_step v d i h l = rw (add-one i, pow-succ' 10 i) (omega arith)

pub power_bound : (v k : ℕ) → v < 10 ^ k → k ≤ 7 → v < 10000000
power_bound v k h l =
    let p : 10 ^ k ≤ 10 ^ 7 = pow-le-pow_right (lit< tt) l in
    omega arith

-- ---- The first column that is no blank.

abbrev mark : ℕ → Bool
mark b = not (eqb b 32)

blank_skipped : (b : ℕ) (bs : List ℕ) → mark b ≡ false → number (b ∷ bs) ≡ number bs
unfolding number
blank_skipped b bs h = elim (ℕ_discrete b 32) [
  | yes e ↦ rw (eq-eqb b 32 e)
  | no d ↦ absurd (let e = ne_eqb b 32 d in cc)
]

blanks_skipped : (i : ℕ) (s : List ℕ) → ((k : ℕ) → k < i → mark (get_or s k 0) ≡ false) → number s ≡ number (drop i s)
blanks_skipped zero s h = refl
blanks_skipped (suc i) [] h = ap number (sym (drop-nil (suc i)))
blanks_skipped (suc i) (b ∷ bs) h = blank_skipped b bs (h 0 (omega arith)) ∙ blanks_skipped i bs (λ k l. h (suc k) (omega arith))

-- There is none,
pub none_begins : (s : List ℕ) → None ≡ position mark s → none ≡ number s
unfolding number
none_begins s h =
    let n = position_or_len mark s in
    let l = ltb-false n (length s) (not_shown (ltb n (length s)) n h) in
    sym (blanks_skipped n s (λ k. fails_before_first mark s k 0) ∙ ap number (drop_of_length-le s l))

-- or it is the first of these digits.
pub record Begins (s digits : List ℕ) : Type 0 where
  pub some_left : 1 ≤ length digits
  pub no_blank : get_or digits 0 0 ≢ 32
  pub same : number s ≡ number digits

pub begins : (s : List ℕ) (i : ℕ) → Some i ≡ position mark s → Begins s (take (length s - i) (drop i s))
begins s i h =
    let p = position-Some mark s i 0 (sym h) in
    let n = length-drop i s in
    let l = p.0 in
    let z : i ≡ i + 0 = omega arith in
    let e : take (length s - i) (drop i s) ≡ drop i s = take_all (length s - i) (drop i s) (omega arith) in
    rw e (record {
      some_left = omega arith;
      no_blank = λ e. let q = eq-eqb (get_or s i 0) 32 (ap (λ (j : ℕ). get_or s j 0) z ∙ sym (get_or-drop i s 0 0) ∙ e) in let r = p.1 in cc;
      same = blanks_skipped i s p.2;
    })

-- A zero has no column behind it; other digits are a number.
zero_alone : (s : List ℕ) → get_or s 0 0 ≡ 48 → held (then_some (eqb (length s) 1) 0) ≡ number s
unfolding number
zero_alone [] e = absurd (omega arith)
zero_alone (b ∷ []) e = rw (ne_eqb b 32 (λ h. omega arith), eq-eqb b 48 e)
zero_alone (b ∷ c ∷ bs) e = rw (ne_eqb b 32 (λ h. omega arith), eq-eqb b 48 e, ne_eqb (length (b ∷ c ∷ bs)) 1 (λ h. omega arith))

all_digits : (s : List ℕ) → 1 ≤ length s → get_or s 0 0 ≢ 32 → get_or s 0 0 ≢ 48 → digits_after 0 s ≡ number s
unfolding number
all_digits [] l n m = absurd (omega arith)
all_digits (b ∷ bs) l n m = rw (ne_eqb b 32 n, ne_eqb b 48 m)

module _ {s digits : List ℕ} (h : Begins s digits) where
  pub zero_read : get_or digits 0 0 ≡ 48 → held (then_some (eqb (length digits) 1) 0) ≡ number s
  zero_read e = zero_alone digits e ∙ sym h.same

  pub digits_read : get_or digits 0 0 ≢ 48 → digits_after 0 digits ≡ number s
  digits_read n = all_digits digits h.some_left h.no_blank n ∙ sym h.same

-- ---- The whole field.

pub short : (w : ℕ) (s : List ℕ) (at : ℕ) → length s < at + w → none ≡ reads w s at
unfolding field
short w s at h = rw (lt-leb (at + w) (length s) h)

pub found : (w : ℕ) (s : List ℕ) (at : ℕ) (o : Option ℕ) → at + w ≤ length s → number (slice at (at + w) s) ≡ o
    → map (λ x. (x, at + w)) o ≡ reads w s at
unfolding field
found w s at o h e = rw (le-leb (at + w) (length s) h, ← e)
