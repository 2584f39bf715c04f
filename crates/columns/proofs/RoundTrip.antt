-- A number's column is read as that number, and columns that are read as a number are that number's. Assumes nothing.
use mathlib.Core.Path.{◌≡◌, refl, ap, sym, ◌∙◌}
use mathlib.Core.Bool.{Bool, true, false, cond, ◌&&◌}
use mathlib.Core.List.{List, [], ◌∷◌, ◌++◌, append_assoc, append-nil}
use mathlib.Core.Option.{Option, none, some, some-injective, none-ne-some}
use Prim.Native.Nat.{ℕ, zero, suc, ◌+◌, ◌-◌, ◌*◌, ◌/◌, ◌%◌, ◌^◌, ◌≤◌, ◌<◌}
use native.Mathlib.Omega.{arith}
use native.Mathlib.Nat.{pow-succ', add-zero}
use lib.Dec.{leb, eqb, lit<}
use lib.ListN.{length}
use borrow.Author.Tests.{eqb-true, eqb-false, ne_eqb, le-leb, leb-true}
use Rattle.columns.specs.Column.{leading, column, digits_after, zero_then, number}

-- ---- A column is read as its number.

-- What is read after the digits of v: after none of them, blanks may still come.
abbrev after : ℕ → List ℕ → Option ℕ
after zero bs = number bs
after (suc v) bs = digits_after (suc v) bs

digit_after : (v d : ℕ) (bs : List ℕ) → d < 10 → digits_after v ((48 + d) ∷ bs) ≡ digits_after (10 * v + d) bs
unfolding digits_after
digit_after v d bs l =
    let e : 48 + d - 48 ≡ d = omega arith in
    rw (le-leb 48 (48 + d) (omega arith), le-leb (48 + d) 57 (omega arith), e)

first_digit : (d : ℕ) (bs : List ℕ) → 0 < d → number ((48 + d) ∷ bs) ≡ digits_after 0 ((48 + d) ∷ bs)
unfolding number
first_digit d bs l = rw (ne_eqb (48 + d) 32 (λ e. omega arith), ne_eqb (48 + d) 48 (λ e. omega arith))

-- One digit more, of a number that is not 0.
after_digit : (x : ℕ) (bs : List ℕ) → 0 < x → after (x / 10) ((48 + x % 10) ∷ bs) ≡ digits_after x bs
after_digit x bs h = go (x / 10) refl
  where
    go : (v : ℕ) → x / 10 ≡ v → after v ((48 + x % 10) ∷ bs) ≡ digits_after x bs
    go zero e =
        let s : 10 * 0 + x % 10 ≡ x = omega arith in
        first_digit (x % 10) bs (omega arith) ∙ digit_after 0 (x % 10) bs (omega arith) ∙ ap (λ (u : ℕ). digits_after u bs) s
    go (suc v) e =
        let s : 10 * suc v + x % 10 ≡ x = omega arith in
        digit_after (suc v) (x % 10) bs (omega arith) ∙ ap (λ (u : ℕ). digits_after u bs) s

tenth : (w x : ℕ) → x < 10 ^ suc w → x / 10 < 10 ^ w
tenth w x l = let p : 10 ^ suc w ≡ 10 * 10 ^ w = pow-succ' 10 w in omega arith

-- A column left of the last holds a digit of a number that is not 0.
leading_digit : (w x : ℕ) → 0 < x → leading (suc w) x ≡ leading w (x / 10) ++ (48 + x % 10) ∷ []
unfolding leading
leading_digit w x h = rw (ne_eqb x 0 (λ e. omega arith))

leading_read : (w x : ℕ) (bs : List ℕ) → x < 10 ^ w → number (leading w x ++ bs) ≡ after x bs
unfolding leading number
leading_read zero zero bs l = refl
leading_read zero (suc x) bs l = absurd (omega arith)
leading_read (suc w) zero bs l = ap number (append_assoc (leading w 0) (32 ∷ []) bs) ∙ leading_read w 0 (32 ∷ bs) (tenth w 0 l)
leading_read (suc w) (suc x) bs l =
    ap (λ (l : List ℕ). number (l ++ bs)) (leading_digit w (suc x) (omega arith))
    ∙ ap number (append_assoc (leading w (suc x / 10)) ((48 + suc x % 10) ∷ []) bs) ∙ leading_read w (suc x / 10) ((48 + suc x % 10) ∷ bs) (tenth w (suc x) l) ∙ after_digit (suc x) bs (omega arith)

last_read : (x : ℕ) → after (x / 10) ((48 + x % 10) ∷ []) ≡ some x
unfolding digits_after number
last_read zero = refl
last_read (suc x) = after_digit (suc x) [] (omega arith)

-- The column of x is read as x.
pub column_read : (w x : ℕ) → x < 10 ^ suc w → number (column (suc w) x) ≡ some x
unfolding column
column_read w x l = leading_read w (x / 10) ((48 + x % 10) ∷ []) (tenth w x l) ∙ last_read x

-- ---- What is read is the column of its number.

-- Columns that hold the number x.
pub record Holds (bs : List ℕ) (x : ℕ) : Type 0 where
  pub columns : bs ≡ column (length bs) x
  pub fits : x < 10 ^ length bs

-- The digits of x are the k digits of v, and then bs.
pub record Continues (bs : List ℕ) (k v x : ℕ) : Type 0 where
  pub columns : leading (k + length bs) x ≡ leading k v ++ bs
  pub fits : x < 10 ^ (k + length bs)
  pub above : 0 < x

-- A byte that is read among digits is one.
is_digit : (b : ℕ) (o : Option ℕ) (x : ℕ) → cond (leb 48 b && leb b 57) o none ≡ some x → (48 ≤ b) × (b ≤ 57) × (o ≡ some x)
is_digit b o x e = go (leb 48 b) (leb b 57) refl refl e
  where
    go : (t u : Bool) → leb 48 b ≡ t → leb b 57 ≡ u → cond (t && u) o none ≡ some x → (48 ≤ b) × (b ≤ 57) × (o ≡ some x)
    go false u p q f = absurd (none-ne-some x f)
    go true false p q f = absurd (none-ne-some x f)
    go true true p q f = (leb-true 48 b p, leb-true b 57 q, f)

digits_are : (bs : List ℕ) (k v x : ℕ) → 0 < v → v < 10 ^ k → digits_after v bs ≡ some x → Continues bs k v x
unfolding digits_after
digits_are [] k v x h l e =
    let q : v ≡ x = some-injective v x e in
    rw (← q) (record { columns = rw (add-zero k, append-nil (leading k v)); fits = rw (add-zero k) l; above = h })
digits_are (b ∷ bs) k v x h l e =
    let w : ℕ = 10 * v + (b - 48) in
    let g = is_digit b (digits_after w bs) x e in
    let c = digits_are bs (suc k) w x (omega arith) (rw (pow-succ' 10 k) (omega arith)) g.2 in
    let n : k + suc (length bs) ≡ suc k + length bs = omega arith in
    let d : w / 10 ≡ v = omega arith in
    let m : 48 + w % 10 ≡ b = omega arith in
    record {
      columns = rw n (c.columns ∙ ap (λ (r : List ℕ). r ++ bs) (leading_digit k w (omega arith)) ∙ rw (d, m) (append_assoc (leading k v) (b ∷ []) bs));
      fits = rw n c.fits;
      above = c.above;
    }

-- A blank more in front.
leading_blank : (w x : ℕ) → x < 10 ^ w → leading (suc w) x ≡ 32 ∷ leading w x
unfolding leading
leading_blank zero zero l = refl
leading_blank zero (suc x) l = absurd (omega arith)
leading_blank (suc w) x l = ap (λ (r : List ℕ). r ++ cond (eqb x 0) 32 (48 + x % 10) ∷ []) (leading_blank w (x / 10) (tenth w x l))

column_blank : (w x : ℕ) → x < 10 ^ suc w → column (suc (suc w)) x ≡ 32 ∷ column (suc w) x
unfolding column
column_blank w x l = ap (λ (r : List ℕ). r ++ (48 + x % 10) ∷ []) (leading_blank w (x / 10) (tenth w x l))

holds_blank : (bs : List ℕ) (x : ℕ) → Holds bs x → number bs ≡ some x → Holds (32 ∷ bs) x
unfolding number
holds_blank [] x h e = absurd (none-ne-some x e)
holds_blank (b ∷ bs) x h e =
    record { columns = ap (λ (r : List ℕ). 32 ∷ r) h.columns ∙ sym (column_blank (length bs) x h.fits); fits = let f = h.fits in let p = pow-succ' 10 (suc (length bs)) in omega arith }

zero_holds : (bs : List ℕ) (x : ℕ) → zero_then bs ≡ some x → Holds (48 ∷ bs) x
unfolding column leading
zero_holds [] x e = rw (← some-injective 0 x e) (record { columns = refl; fits = lit< tt })
zero_holds (b ∷ bs) x e = absurd (none-ne-some x e)

column_leading : (w x : ℕ) → 0 < x → leading (suc w) x ≡ column (suc w) x
unfolding column
column_leading w x h = leading_digit w x h

one_digit : (w b : ℕ) → 48 + w % 10 ≡ b → leading 0 (w / 10) ++ (48 + w % 10) ∷ [] ≡ b ∷ []
unfolding leading
one_digit w b m = ap (λ (u : ℕ). u ∷ []) m

digits_hold : (b : ℕ) (bs : List ℕ) (x : ℕ) → (b ≡ 48 → ⊥) → digits_after 0 (b ∷ bs) ≡ some x → Holds (b ∷ bs) x
unfolding digits_after
digits_hold b bs x n e =
    let w : ℕ = 10 * 0 + (b - 48) in
    let g = is_digit b (digits_after w bs) x e in
    let h : 0 < w = omega arith in
    let c = digits_are bs 1 w x h (omega arith) g.2 in
    let s : 1 + length bs ≡ suc (length bs) = omega arith in
    let m : 48 + w % 10 ≡ b = omega arith in
    record {
      columns =
          sym (sym (column_leading (length bs) x c.above) ∙ rw (← s) (c.columns ∙ ap (λ (r : List ℕ). r ++ bs) (leading_digit 0 w h ∙ one_digit w b m)));
      fits = rw (← s) c.fits;
    }

-- Columns that are read as x are the column of x.
pub number_column : (bs : List ℕ) (x : ℕ) → number bs ≡ some x → Holds bs x
unfolding number
number_column [] x e = absurd (none-ne-some x e)
number_column (b ∷ bs) x e = go (eqb b 32) (eqb b 48) refl refl e (number_column bs x)
  where
    go : (t u : Bool) → eqb b 32 ≡ t → eqb b 48 ≡ u → cond t (number bs) (cond u (zero_then bs) (digits_after 0 (b ∷ bs))) ≡ some x
        → (number bs ≡ some x → Holds bs x) → Holds (b ∷ bs) x
    go true u p q f ih = rw (eqb-true b 32 p) (holds_blank bs x (ih f) f)
    go false true p q f ih = rw (eqb-true b 48 q) (zero_holds bs x f)
    go false false p q f ih = digits_hold b bs x (eqb-false b 48 q) f
