-- Rows of fields: how long they are, that they are read as their numbers, and that what is read is the row of its numbers. Assumes nothing.
use mathlib.Core.Path.{◌≡◌, refl, ap, ap₂, sym, ◌∙◌}
use mathlib.Core.Bool.{Bool, true, false, cond}
use mathlib.Core.List.{List, [], ◌∷◌, ◌++◌, append_assoc}
use mathlib.Core.Option.{Option, none, some, some-injective, none-ne-some}
use Prim.Native.Nat.{ℕ, zero, suc, ◌+◌, ◌*◌, ◌/◌, ◌^◌, ◌<◌}
use native.Mathlib.Omega.{arith}
use native.Mathlib.Nat.{mul-zero, mul-suc}
use lib.Dec.{leb}
use lib.ListN.{length, take, drop, length-append, take-append-drop}
use lib.Seq.{slice, length-slice, take-append-add, drop-append_seam, drop-drop, take_at}
use borrow.Author.Tests.{le-leb, leb-true}
use Rattle.columns.specs.Column.{leading, column, row, number, field, fields, cons_to}
use Rattle.columns.proofs.RoundTrip.{column_read, number_column}
use Rattle.columns.proofs.Parts.{width, part_is}

leading_length : (w x : ℕ) → length (leading w x) ≡ w
unfolding leading
leading_length zero x = refl
leading_length (suc w) x = length-append (leading w (x / 10)) _ ∙ rw (leading_length w (x / 10)) (omega arith)

-- A column has its width.
pub column_length : (w x : ℕ) → length (column w x) ≡ w
unfolding column
column_length zero x = refl
column_length (suc w) x = length-append (leading w (x / 10)) _ ∙ rw (leading_length w (x / 10)) (omega arith)

-- A row has its fields and one byte.
pub row_length : (w : ℕ) (xs : List ℕ) → length (row w xs) ≡ w * length xs + 1
unfolding row
row_length w [] = rw (mul-zero w)
row_length w (x ∷ xs) = length-append (column w x) (row w xs) ∙ rw (column_length w x, row_length w xs, mul-suc w (length xs)) (omega arith)

-- The numbers of the list fit w columns.
abbrev pub Fit : ℕ → List ℕ → Type 0
Fit w [] = Unit {0}
Fit w (x ∷ xs) = (x < 10 ^ w) × Fit w xs

-- A field is read where its column stands.
pub field_read : (w x : ℕ) (before after : List ℕ) → x < 10 ^ suc w → field (suc w) (before ++ (column (suc w) x ++ after)) (length before) ≡ some x
unfolding field
field_read w x before after l =
    let c = column_length (suc w) x in
    let n = length-append before (column (suc w) x ++ after) in
    let m = length-append (column (suc w) x) after in
    let here : slice (length before) (length before + suc w) (before ++ (column (suc w) x ++ after)) ≡ column (suc w) x =
    ap (drop (length before)) (take-append-add before (column (suc w) x ++ after) (suc w))
    ∙ drop-append_seam before (take (suc w) (column (suc w) x ++ after)) ∙ take_at (column (suc w) x) after (suc w) c in
    rw (le-leb (length before + suc w) (length (before ++ (column (suc w) x ++ after))) (omega arith), here) (column_read w x l)

-- The fields of a row are read where it stands.
pub row_read : (w : ℕ) (xs before after : List ℕ) → Fit (suc w) xs → fields (length xs) (suc w) (before ++ (row (suc w) xs ++ after)) (length before) ≡ some xs
unfolding fields row
row_read w [] before after f = refl
row_read w (x ∷ xs) before after f =
    let c = column (suc w) x in
    let r = row (suc w) xs in
    let whole : (c ++ r) ++ after ≡ c ++ (r ++ after) = append_assoc c r after in
    let moved : before ++ (c ++ (r ++ after)) ≡ (before ++ c) ++ (r ++ after) = sym (append_assoc before c (r ++ after)) in
    let next : length before + suc w ≡ length (before ++ c) = sym (length-append before c ∙ ap (λ (k : ℕ). length before + k) (column_length (suc w) x)) in
    rw whole
    (ap₂ cons_to (field_read w x before (r ++ after) f.0)
    (ap₂ (λ (s : List ℕ) (at : ℕ). fields (length xs) (suc w) s at) moved next ∙ row_read w xs (before ++ c) after f.1))

-- ---- What is read is the row of its numbers.

-- A field that is read is the column of its number.
field_column : (w : ℕ) (s : List ℕ) (at x : ℕ) → field w s at ≡ some x → drop at s ≡ column w x ++ drop (at + w) s
unfolding field
field_column w s at x e = go (leb (at + w) (length s)) refl e
  where
    go : (t : Bool) → leb (at + w) (length s) ≡ t → cond t (number (slice at (at + w) s)) none ≡ some x → drop at s ≡ column w x ++ drop (at + w) s
    go false p f = absurd (none-ne-some x f)
    go true p f =
        let n : length (slice at (at + w) s) ≡ w = length-slice at (at + w) s (leb-true (at + w) (length s) p) ∙ omega arith in
        let here : take w (drop at s) ≡ column w x = part_is at w s ∙ (number_column (slice at (at + w) s) x f).columns ∙ ap (λ (k : ℕ). column k x) n in
        sym (take-append-drop w (drop at s)) ∙ ap₂ (λ (a b : List ℕ). a ++ b) here (drop-drop w at s)

-- Numbers that are read are a first one and others.
record Parted (o : Option ℕ) (p : Option (List ℕ)) (xs : List ℕ) : Type 0 where
  first : ℕ
  others : List ℕ
  first_is : o ≡ some first
  others_are : p ≡ some others
  all_are : xs ≡ first ∷ others

parted : (o : Option ℕ) (p : Option (List ℕ)) (xs : List ℕ) → cons_to o p ≡ some xs → Parted o p xs
parted none p xs e = absurd (none-ne-some xs e)
parted (some x) none xs e = absurd (none-ne-some xs e)
parted (some x) (some ys) xs e =
    record { first = x; others = ys; first_is = refl; others_are = refl; all_are = sym (some-injective (x ∷ ys) xs e) }

-- There are as many numbers as fields,
pub fields_length : (k w : ℕ) (s : List ℕ) (at : ℕ) (xs : List ℕ) → fields k w s at ≡ some xs → length xs ≡ k
unfolding fields
fields_length zero w s at xs e = ap length (sym (some-injective [] xs e))
fields_length (suc k) w s at xs e =
    let p = parted (field w s at) (fields k w s (at + w)) xs e in
    ap length p.all_are ∙ ap suc (fields_length k w s (at + w) p.others p.others_are)

-- and with byte 10 behind them they are their row.
pub fields_row : (k w : ℕ) (s : List ℕ) (at : ℕ) (xs rest : List ℕ) → fields k w s at ≡ some xs → drop (at + width w k) s ≡ 10 ∷ rest
    → drop at s ≡ row w xs ++ rest
unfolding fields width row
fields_row zero w s at xs rest e f =
    let z : at + 0 ≡ at = omega arith in
    rw (← some-injective [] xs e) (rw z at f)
fields_row (suc k) w s at xs rest e f =
    let p = parted (field w s at) (fields k w s (at + w)) xs e in
    let x = p.first in
    let ys = p.others in
    let z : at + (w + width w k) ≡ at + w + width w k = omega arith in
    field_column w s at x p.first_is
    ∙ ap (λ (l : List ℕ). column w x ++ l) (fields_row k w s (at + w) ys rest p.others_are (rw z at f))
    ∙ sym (append_assoc (column w x) (row w ys) rest) ∙ ap (λ (l : List ℕ). row w l ++ rest) (sym p.all_are)
