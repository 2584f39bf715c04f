-- Five columns, read by their digits from the last on. Assumes nothing.
use mathlib.Core.Path.{◌≡◌, refl, sym, ap, ◌∙◌}
use mathlib.Core.Bool.{Bool, true, false, cond, ◌&&◌}
use mathlib.Core.List.{List, [], ◌∷◌, ◌++◌}
use mathlib.Core.Logic.{◌≢◌}
use mathlib.Core.Option.{Option, none, some}
use Prim.Native.Nat.{ℕ, ◌+◌, ◌-◌, ◌*◌, ◌%◌, ◌≤◌, ◌<◌}
use native.Mathlib.Decide.{ℕ_discrete}
use native.Mathlib.Omega.{arith}
use lib.Dec.{leb}
use lib.ListN.{length, get_or, take}
use borrow.Author.Tests.{eq-eqb, ne_eqb, le-leb}
use Rattle.std.proofs.Common.{Some, None}
use Rattle.std.specs.Int.{from_le_bytes, w32}
use Rattle.columns.specs.Column.{number, digits_after, zero_then}
use Rattle.columns.specs.Scan.{digit_of, first_digit_of}
use Rattle.columns.proofs.Laws.{untrue, shown, not_shown, digit_on}
pub use Rattle.columns.proofs.Laws.{among_bounds}
use Rattle.columns.proofs.Parts.{five_of_law}

-- A digit, and a digit that may come first.
abbrev digit : ℕ → Bool
digit b = leb 48 b && leb b 57

abbrev lead : ℕ → Bool
lead b = leb 49 b && leb b 57

among_not : (low high b : ℕ) → (leb low b && leb b high) ≡ false → low ≤ b → b ≤ high → ⊥
among_not low high b h l k =
    let e : (leb low b && leb b high) ≡ true = rw (le-leb low b l, le-leb b high k) refl in
    untrue e h

-- ---- Column by column.

-- These columns are blank.
abbrev Blank : List ℕ → Type 0
Blank [] = Unit {0}
Blank (x ∷ xs) = (x ≡ 32) × Blank xs

skip : (xs ys : List ℕ) → Blank xs → number (xs ++ ys) ≡ number ys
unfolding number
skip [] ys h = refl
skip (x ∷ xs) ys h = rw (eq-eqb x 32 h.0) (skip xs ys h.1)

all_on : (v : ℕ) → digits_after v [] ≡ some v
unfolding digits_after
all_on v = refl

stray_on : (v : ℕ) (xs : List ℕ) (b : ℕ) (ys : List ℕ) → digit b ≡ false → digits_after v (xs ++ b ∷ ys) ≡ none
unfolding digits_after
stray_on v [] b ys h = rw h refl
stray_on v (x ∷ xs) b ys h = go (digit x) (digits_after (10 * v + (x - 48)) (xs ++ b ∷ ys)) (stray_on (10 * v + (x - 48)) xs b ys h)
  where
    go : (t : Bool) (o : Option ℕ) → o ≡ none → cond t o none ≡ none
    go true o e = e
    go false o e = refl

first_on : (b : ℕ) (bs : List ℕ) {x : ℕ} → Some x ≡ first_digit_of b → number (b ∷ bs) ≡ digits_after x bs
unfolding number digits_after
first_on b bs {x} p =
    let s = shown p in
    let k = among_bounds 49 57 b s.0 in
    let e : digit b ≡ true = rw (le-leb 48 b (omega arith), le-leb b 57 k.1) refl in
    let z : 10 * 0 + (b - 48) ≡ x = omega arith in
    rw (ne_eqb b 32 (λ q. omega arith), ne_eqb b 48 (λ q. omega arith), e, z) refl

one_on : (b : ℕ) {x : ℕ} → Some x ≡ digit_of b → number (b ∷ []) ≡ some x
unfolding number
one_on b {x} p =
    let s = shown p in
    let k = among_bounds 48 57 b s.0 in
    elim (ℕ_discrete b 48) [
      | yes e ↦
          let z : 0 ≡ x = omega arith in
          rw (ne_eqb b 32 (λ q. omega arith), eq-eqb b 48 e) (ap some z)
      | no d ↦
          let e : lead b ≡ true = rw (le-leb 49 b (omega arith), le-leb b 57 k.1) refl in
          let f : Some x ≡ first_digit_of b = rw (e, s.1) refl in
          first_on b [] f ∙ all_on x
    ]

none_left : number [] ≡ none
unfolding number
none_left = refl

zero_then_law : (xs : List ℕ) (b : ℕ) (ys : List ℕ) → zero_then (xs ++ b ∷ ys) ≡ none
zero_then_law [] b ys = refl
zero_then_law (x ∷ xs) b ys = refl

-- A column that holds no digit is a fault, unless all up to it are blank and what is behind it is one.
stray : (xs : List ℕ) (b : ℕ) (ys : List ℕ) → digit b ≡ false → (Blank (xs ++ b ∷ []) → number ys ≡ none) → number (xs ++ b ∷ ys) ≡ none
unfolding number
stray [] b ys h n = elim (ℕ_discrete b 32) [
  | yes e ↦ rw (eq-eqb b 32 e) (n (e, tt))
  | no d ↦ rw (ne_eqb b 32 d, ne_eqb b 48 (λ q. among_not 48 57 b h (omega arith) (omega arith))) (stray_on 0 [] b ys h)
]
stray (x ∷ xs) b ys h n = elim (ℕ_discrete x 32) [
  | yes e ↦ rw (eq-eqb x 32 e) (stray xs b ys h (λ k. n (e, k)))
  | no d ↦ elim (ℕ_discrete x 48) [
    | yes e ↦ rw (ne_eqb x 32 d, eq-eqb x 48 e) (zero_then_law xs b ys)
    | no f ↦ rw (ne_eqb x 32 d, ne_eqb x 48 f) (stray_on 0 (x ∷ xs) b ys h)
  ]
]

-- No number of two digits or more begins with 0 or another byte.
no_lead : (b c : ℕ) (ys : List ℕ) → lead b ≡ false → b ≢ 32 → number (b ∷ c ∷ ys) ≡ none
unfolding number
no_lead b c ys h n = elim (ℕ_discrete b 48) [
  | yes e ↦ rw (ne_eqb b 32 n, eq-eqb b 48 e) refl
  | no d ↦ rw (ne_eqb b 32 n, ne_eqb b 48 d) (stray_on 0 [] b (c ∷ ys) (no_digit d (digit b) refl))
]
  where
    above : {m : ℕ} → 48 ≤ m → m ≢ 48 → 49 ≤ m
    above {m} l n = elim (ℕ_discrete m 48) [
      | yes e ↦ absurd (n e)
      | no e ↦ omega arith
    ]

    no_digit : b ≢ 48 → (t : Bool) → digit b ≡ t → t ≡ false
    no_digit d true e = let k = among_bounds 48 57 b e in absurd (among_not 49 57 b h (above k.0 d) k.1)
    no_digit d false e = refl

-- ---- Five columns.

-- The columns s, the first four as the number left.
pub record Five (s : List ℕ) (left : ℕ) : Type 0 where
  pub is : number s ≡ number (get_or s 0 0 ∷ get_or s 1 0 ∷ get_or s 2 0 ∷ get_or s 3 0 ∷ get_or s 4 0 ∷ [])
  pub sum : left ≡ get_or s 0 0 + 256 * get_or s 1 0 + 65536 * get_or s 2 0 + 16777216 * get_or s 3 0
  pub first : get_or s 0 0 < 256
  pub second : get_or s 1 0 < 256
  pub third : get_or s 2 0 < 256
  pub fourth : get_or s 3 0 < 256

sum_of : (s : List ℕ) → length s ≡ 5 → from_le_bytes w32 (take 4 s) ≡ get_or s 0 0 + 256 * get_or s 1 0 + 65536 * get_or s 2 0 + 16777216 * get_or s 3 0
sum_of s h = ap (λ l. from_le_bytes w32 (take 4 l)) (sym (five_of_law s h)) ∙ omega arith

pub five : (s : List ℕ) (left : ℕ) → length s ≡ 5 → ((k : ℕ) → get_or s k 0 < 256) → left ≡ from_le_bytes w32 (take 4 s) → Five s left
five s left n f e = record {
  is = ap number (sym (five_of_law s n));
  sum = e ∙ sum_of s n;
  first = f 0;
  second = f 1;
  third = f 2;
  fourth = f 3;
}

module _ {s : List ℕ} {left : ℕ} (h : Five s left) where
  abbrev a : ℕ
  a = get_or s 0 0

  abbrev b : ℕ
  b = get_or s 1 0

  abbrev c : ℕ
  c = get_or s 2 0

  abbrev d : ℕ
  d = get_or s 3 0

  abbrev e : ℕ
  e = get_or s 4 0

  pub last_fault : None ≡ digit_of e → none ≡ number s
  last_fault p = sym (h.is ∙ stray (a ∷ b ∷ c ∷ d ∷ []) e [] (not_shown (digit e) (e - 48) p) (λ k. none_left))

  pub one_digit : {w : ℕ} → left ≡ 538976288 → Some w ≡ digit_of e → some w ≡ number s
  one_digit q p =
      sym (h.is ∙ skip (a ∷ b ∷ c ∷ d ∷ []) (e ∷ []) (omega arith, (omega arith, (omega arith, (omega arith, tt)))) ∙ one_on e p)

  pub two_fault : left ≢ 538976288 → left % 16777216 ≡ 2105376 → None ≡ first_digit_of d → none ≡ number s
  two_fault n q p =
      sym (h.is ∙ skip (a ∷ b ∷ c ∷ []) (d ∷ e ∷ []) (omega arith, (omega arith, (omega arith, tt)))
      ∙ no_lead d e [] (not_shown (lead d) (d - 48) p) (λ z. n (omega arith)))

  pub two_digits : {v w : ℕ} → left % 16777216 ≡ 2105376 → Some v ≡ first_digit_of d → Some w ≡ digit_of e → some (10 * v + w) ≡ number s
  two_digits q k l =
      sym (h.is ∙ skip (a ∷ b ∷ c ∷ []) (d ∷ e ∷ []) (omega arith, (omega arith, (omega arith, tt))) ∙ first_on d (e ∷ []) k ∙ digit_on _ e [] l ∙ all_on _)

  pub fourth_fault : left ≢ 538976288 → None ≡ digit_of d → none ≡ number s
  fourth_fault n p =
      sym (h.is ∙ stray (a ∷ b ∷ c ∷ []) d (e ∷ []) (not_shown (digit d) (d - 48) p)
      (λ k. let z₁ = k.0 in let z₂ = k.1.0 in let z₃ = k.1.1.0 in let z₄ = k.1.1.1.0 in absurd (n (omega arith))))

  pub three_fault : left % 16777216 ≢ 2105376 → left % 65536 ≡ 8224 → None ≡ first_digit_of c → none ≡ number s
  three_fault n q p =
      sym (h.is ∙ skip (a ∷ b ∷ []) (c ∷ d ∷ e ∷ []) (omega arith, (omega arith, tt))
      ∙ no_lead c d (e ∷ []) (not_shown (lead c) (c - 48) p) (λ z. n (omega arith)))

  pub three_digits : {u v w : ℕ} → left % 65536 ≡ 8224 → Some u ≡ first_digit_of c → Some v ≡ digit_of d → Some w ≡ digit_of e
      → some (100 * u + (10 * v + w)) ≡ number s
  three_digits {u} {v} {w} q i j k =
      let z : 100 * u + (10 * v + w) ≡ 10 * (10 * u + v) + w = omega arith in
      ap some z
      ∙ sym (h.is ∙ skip (a ∷ b ∷ []) (c ∷ d ∷ e ∷ []) (omega arith, (omega arith, tt)) ∙ first_on c (d ∷ e ∷ []) i ∙ digit_on _ d (e ∷ []) j
      ∙ digit_on _ e [] k ∙ all_on _)

  pub third_fault : left % 16777216 ≢ 2105376 → None ≡ digit_of c → none ≡ number s
  third_fault n p =
      sym (h.is ∙ stray (a ∷ b ∷ []) c (d ∷ e ∷ []) (not_shown (digit c) (c - 48) p)
      (λ k. let z₁ = k.0 in let z₂ = k.1.0 in let z₃ = k.1.1.0 in absurd (n (omega arith))))

  pub four_fault : left % 65536 ≢ 8224 → a ≡ 32 → None ≡ first_digit_of b → none ≡ number s
  four_fault n q p =
      sym (h.is ∙ skip (a ∷ []) (b ∷ c ∷ d ∷ e ∷ []) (q, tt) ∙ no_lead b c (d ∷ e ∷ []) (not_shown (lead b) (b - 48) p) (λ z. n (omega arith)))

  pub four_digits : {t u v w : ℕ} → a ≡ 32 → Some t ≡ first_digit_of b → Some u ≡ digit_of c → Some v ≡ digit_of d → Some w ≡ digit_of e
      → some (1000 * t + (100 * u + (10 * v + w))) ≡ number s
  four_digits {t} {u} {v} {w} q g i j k =
      let z : 1000 * t + (100 * u + (10 * v + w)) ≡ 10 * (10 * (10 * t + u) + v) + w = omega arith in
      ap some z
      ∙ sym (h.is ∙ skip (a ∷ []) (b ∷ c ∷ d ∷ e ∷ []) (q, tt) ∙ first_on b (c ∷ d ∷ e ∷ []) g ∙ digit_on _ c (d ∷ e ∷ []) i
      ∙ digit_on _ d (e ∷ []) j ∙ digit_on _ e [] k ∙ all_on _)

  pub second_fault : left % 65536 ≢ 8224 → None ≡ digit_of b → none ≡ number s
  second_fault n p =
      sym (h.is ∙ stray (a ∷ []) b (c ∷ d ∷ e ∷ []) (not_shown (digit b) (b - 48) p) (λ k. let z₁ = k.0 in let z₂ = k.1.0 in absurd (n (omega arith))))

  pub five_fault : a ≢ 32 → None ≡ first_digit_of a → none ≡ number s
  five_fault n p = sym (h.is ∙ no_lead a b (c ∷ d ∷ e ∷ []) (not_shown (lead a) (a - 48) p) n)

  pub five_digits : {r t u v w : ℕ} → Some r ≡ first_digit_of a → Some t ≡ digit_of b → Some u ≡ digit_of c → Some v ≡ digit_of d → Some w ≡ digit_of e
      → some (10000 * r + 1000 * t + (100 * u + (10 * v + w))) ≡ number s
  five_digits {r} {t} {u} {v} {w} f g i j k =
      let z : 10000 * r + 1000 * t + (100 * u + (10 * v + w)) ≡ 10 * (10 * (10 * (10 * r + t) + u) + v) + w = omega arith in
      ap some z
      ∙ sym (h.is ∙ first_on a (b ∷ c ∷ d ∷ e ∷ []) f ∙ digit_on _ b (c ∷ d ∷ e ∷ []) g ∙ digit_on _ c (d ∷ e ∷ []) i ∙ digit_on _ d (e ∷ []) j
      ∙ digit_on _ e [] k ∙ all_on _)
