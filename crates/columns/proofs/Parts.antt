-- Fields in a row, read one by one into a list; and fields of a part of the bytes. Assumes nothing.
use mathlib.Core.Path.{◌≡◌, refl, sym, ap, ◌∙◌}
use mathlib.Core.Bool.{Bool, cond}
use mathlib.Core.List.{List, [], ◌∷◌, ◌++◌}
use mathlib.Core.Logic.{◌⊎◌, inl, inr}
use mathlib.Core.Option.{Option, none, some, map, some-injective}
use Prim.Native.Nat.{ℕ, zero, suc, ◌+◌, ◌-◌, ◌*◌, ◌≤◌, ◌<◌}
use native.Mathlib.Omega.{arith}
use lib.ListN.{length, take, drop, get_or, set, length-set, length-drop}
use lib.Seq.{slice, length-slice, take-take, take-nil, drop-nil, take-suc-set, take_all}
use native.Mathlib.Nat.{zero-mul, suc-mul}
use borrow.Author.Tests.{le-leb, lt-leb}
use Rattle.columns.specs.Column.{field, fields, number, cons_to, reads}
use Rattle.columns.specs.declared.Cursor.{Cursor}

-- Numbers before what is still to be read.
unfoldable pub before : List ℕ → Option (List ℕ) → Option (List ℕ)
before [] rest = rest
before (x ∷ xs) rest = cons_to (some x) (before xs rest)

pub before_none : (xs : List ℕ) → before xs none ≡ none
unfolding before
before_none [] = refl
before_none (x ∷ xs) = ap (cons_to (some x)) (before_none xs)

pub before_all : (xs : List ℕ) → before xs (some []) ≡ some xs
unfolding before
before_all [] = refl
before_all (x ∷ xs) = ap (cons_to (some x)) (before_all xs)

before_more : (xs : List ℕ) (x : ℕ) (rest : Option (List ℕ)) → before xs (cons_to (some x) rest) ≡ before (xs ++ x ∷ []) rest
unfolding before
before_more [] x rest = refl
before_more (y ∷ xs) x rest = ap (cons_to (some y)) (before_more xs x rest)

-- What the cursor answers: the number of a field and the position behind it, or that it holds none.
found : (w : ℕ) (s : List ℕ) (at x next : ℕ) → ◌≡◌ {A = Option (ℕ × ℕ)} (some (x, next)) (reads w s at) → (field w s at ≡ some x) × (next ≡ at + w)
found w s at x next e = go (field w s at) e
  where
    go : (o : Option ℕ) → ◌≡◌ {A = Option (ℕ × ℕ)} (some (x, next)) (map (λ y. (y, at + w)) o) → (o ≡ some x) × (next ≡ at + w)
    go none f = cc
    go (some y) f =
        let u : ◌≡◌ {A = ℕ × ℕ} (x, next) (y, at + w) = some-injective {A = ℕ × ℕ} (x, next) (y, at + w) f in
        (ap some (sym (ap (λ (v : ℕ × ℕ). v.0) u)), ap (λ (v : ℕ × ℕ). v.1) u)

not_found : (w : ℕ) (s : List ℕ) (at : ℕ) → none ≡ reads w s at → field w s at ≡ none
not_found w s at e = go (field w s at) e
  where
    go : (o : Option ℕ) → none ≡ map {B = ℕ × ℕ} (λ y. (y, at + w)) o → o ≡ none
    go none f = refl
    go (some y) f = cc

-- k of all fields are read: they stand at the beginning of numbers, and the rest is to be read from the cursor on.
pub record Reading (w all : ℕ) (s numbers : List ℕ) (here : Cursor) (k : ℕ) : Type 0 where
  pub room : length numbers ≡ all
  pub so_far : k ≤ all
  pub rest : fields all w s 0 ≡ before (take k numbers) (fields (all - k) w s here.at)

module _ (w all : ℕ) (s : List ℕ) where
  pub starts : (numbers : List ℕ) {here : Cursor} → length numbers ≡ all → here.at ≡ 0 → Reading w all s numbers here 0
  unfolding before
  starts numbers {here} e b =
      let z : all - 0 ≡ all = omega arith in
      record { room = e; so_far = omega arith; rest = ap (λ (m : ℕ). fields m w s 0) (sym z) ∙ ap (fields (all - 0) w s) (sym b) }

  module _ {numbers : List ℕ} {here : Cursor} {k : ℕ} (r : Reading w all s numbers here k) where
    -- The next field is no number,
    pub stops : k < all → none ≡ reads w s here.at → fields all w s 0 ≡ none
    unfolding fields
    stops l says =
        let n : all - k ≡ suc (all - k - 1) = omega arith in
        r.rest
        ∙ ap (before (take k numbers)) (ap (λ (m : ℕ). fields m w s here.at) n
        ∙ ap (λ (o : Option ℕ). cons_to o (fields (all - k - 1) w s (here.at + w))) (not_found w s here.at says))
        ∙ before_none (take k numbers)

    -- or one, with the cursor at the next.
    pub reads_on : {x : ℕ} {next : Cursor} → k < all → ◌≡◌ {A = Option (ℕ × ℕ)} (some (x, next.at)) (reads w s here.at) → Reading w all s (set numbers k x) next (k + 1)
    unfolding fields
    reads_on {x} {next} l says =
        let n : all - k ≡ suc (all - (k + 1)) = omega arith in
        let m = r.room in
        let i : k < length numbers = omega arith in
        let one : k + 1 ≡ suc k = omega arith in
        let left = fields (all - (k + 1)) w s next.at in
        let f = found w s here.at x next.at says in
        record {
          room = length-set numbers k x ∙ m;
          so_far = omega arith;
          rest =
              r.rest
              ∙ ap (before (take k numbers)) (ap (λ (j : ℕ). fields j w s here.at) n
              ∙ ap (λ (o : Option ℕ). cons_to o (fields (all - (k + 1)) w s (here.at + w))) f.0
              ∙ ap (λ (j : ℕ). cons_to (some x) (fields (all - (k + 1)) w s j)) (sym f.1))
              ∙ before_more (take k numbers) x left
              ∙ ap (λ (xs : List ℕ). before xs left) (sym (ap (λ (j : ℕ). take j (set numbers k x)) one ∙ take-suc-set numbers k x i));
        }

    -- All are read.
    pub all_read : k ≡ all → fields all w s 0 ≡ some numbers
    unfolding fields
    all_read e =
        let z : all - k ≡ 0 = omega arith in
        let m = r.room in
        r.rest ∙ ap (before (take k numbers)) (ap (λ (j : ℕ). fields j w s here.at) z) ∙ before_all (take k numbers)
        ∙ ap some (take_all k numbers (omega arith))

-- A list of five numbers.
pub five_of_law : (l : List ℕ) → length l ≡ 5 → get_or l 0 0 ∷ get_or l 1 0 ∷ get_or l 2 0 ∷ get_or l 3 0 ∷ get_or l 4 0 ∷ [] ≡ l
five_of_law [] h = absurd (omega arith)
five_of_law (a ∷ []) h = absurd (omega arith)
five_of_law (a ∷ b ∷ []) h = absurd (omega arith)
five_of_law (a ∷ b ∷ c ∷ []) h = absurd (omega arith)
five_of_law (a ∷ b ∷ c ∷ d ∷ []) h = absurd (omega arith)
five_of_law (a ∷ b ∷ c ∷ d ∷ e ∷ []) h = refl
five_of_law (a ∷ b ∷ c ∷ d ∷ e ∷ f ∷ l) h = absurd (omega arith)

-- ---- Fields of a part.

-- A part by its start and its length.
pub part_is : (a n : ℕ) (s : List ℕ) → take n (drop a s) ≡ slice a (a + n) s
part_is zero n s = let z : 0 + n ≡ n = omega arith in rw z refl
part_is (suc a) n [] = take-nil n ∙ sym (ap (drop (suc a)) (take-nil (suc a + n)))
part_is (suc a) n (x ∷ s) = let e : suc a + n ≡ suc (a + n) = omega arith in rw e (part_is a n s)

part_of_part : (a i w b : ℕ) (s : List ℕ) → a + i + w ≤ b → drop i (take (i + w) (drop a (take b s))) ≡ drop (a + i) (take (a + i + w) s)
part_of_part zero i w b s l =
    let z : 0 + i ≡ i = omega arith in
    rw z (ap (drop i) (take-take (i + w) b s (omega arith)))
part_of_part (suc a) i w zero s l = absurd (omega arith)
part_of_part (suc a) i w (suc b) [] l =
    ap (drop i) (take-nil (i + w)) ∙ drop-nil i ∙ sym (ap (drop (suc a + i)) (take-nil (suc a + i + w)) ∙ drop-nil (suc a + i))
part_of_part (suc a) i w (suc b) (x ∷ s) l =
    let e : suc a + i ≡ suc (a + i) = omega arith in
    let f : suc a + i + w ≡ suc (a + i + w) = omega arith in
    rw (f, e) (part_of_part a i w b s (omega arith))

-- The columns of k fields of width w.
unfoldable pub width : ℕ → ℕ → ℕ
width w zero = 0
width w (suc k) = w + width w k

module _ (w : ℕ) (s : List ℕ) (a b : ℕ) (inside : b ≤ length s) where
  field_of_part : (i : ℕ) → a + i + w ≤ b → field w (slice a b s) i ≡ field w s (a + i)
  unfolding field
  field_of_part i l =
      let m = length-slice a b s inside in
      rw (le-leb (i + w) (length (slice a b s)) (omega arith), le-leb (a + i + w) (length s) (omega arith)) (ap number (part_of_part a i w b s l))

  -- They are read as in the whole.
  fields_of_part : (k i : ℕ) → a + i + width w k ≤ b → fields k w (slice a b s) i ≡ fields k w s (a + i)
  unfolding fields width
  fields_of_part zero i l = refl
  fields_of_part (suc k) i l =
      let e : a + (i + w) ≡ a + i + w = omega arith in
      ap (λ (o : Option ℕ). cons_to o (fields k w (slice a b s) (i + w))) (field_of_part i (omega arith))
      ∙ ap (cons_to (field w s (a + i))) (fields_of_part k (i + w) (omega arith) ∙ ap (fields k w s) e)

-- The part of n columns from a position.
pub record Part (s part : List ℕ) (at n : ℕ) : Type 0 where
  pub inside : at + n ≤ length s
  pub is : part ≡ slice at (at + n) s

-- As a program lends it: so many of all that is left from there.
pub part_lent : (s rest part : List ℕ) (at n : ℕ) → at ≤ length s → rest ≡ take (length s - at) (drop at s) → n ≤ length rest
    → part ≡ take n rest → Part s part at n
part_lent s rest part at n l e k f =
    let d = length-drop at s in
    let t : rest ≡ drop at s = e ∙ take_all (length s - at) (drop at s) (omega arith) in
    let m : length rest ≡ length s - at = ap length t ∙ d in
    record { inside = omega arith; is = f ∙ ap (take n) t ∙ part_is at n s }

pub width_is : (w k : ℕ) → width w k ≡ k * w
unfolding width
width_is w zero = sym (zero-mul w)
width_is w (suc k) = rw (suc-mul k w, width_is w k) (omega arith)

pub line_lent : (s rest line : List ℕ) (at w k : ℕ) → at ≤ length s → rest ≡ take (length s - at) (drop at s) → k * w ≤ length rest
    → line ≡ take (k * w - 0) (drop 0 rest) → Part s line at (width w k)
line_lent s rest line at w k l e m f =
    let z : k * w - 0 ≡ k * w = omega arith in
    rw (width_is w k) (part_lent s rest line at (k * w) l e m (f ∙ ap (λ (n : ℕ). take n rest) z))

-- Its fields are those from a position on that its start comes to.
pub fields_within : (w : ℕ) (s part : List ℕ) (k at : ℕ) {start : ℕ} → Part s part start (width w k) → start ≡ at → fields k w part 0 ≡ fields k w s at
fields_within w s part k at {start} p e =
    let z : start + 0 ≡ at = omega arith in
    ap (λ (part : List ℕ). fields k w part 0) p.is ∙ fields_of_part w s start (start + width w k) p.inside k 0 (omega arith) ∙ ap (fields k w s) z

-- ---- Fields that end beyond the bytes.

cons_to_none : (o : Option ℕ) → cons_to o none ≡ none
cons_to_none none = refl
cons_to_none (some x) = refl

-- They are none.
pub fields_short : (w : ℕ) (s : List ℕ) (k at : ℕ) → 1 ≤ k → length s < at + width w k → fields k w s at ≡ none
unfolding fields field width
fields_short w s zero at h l = absurd (omega arith)
fields_short w s (suc zero) at h l = ap (λ (t : Bool). cons_to (cond t (number (slice at (at + w) s)) none) (some [])) (lt-leb (at + w) (length s) (omega arith))
fields_short w s (suc (suc k)) at h l = ap (cons_to (field w s at)) (fields_short w s (suc k) (at + w) (omega arith) (omega arith)) ∙ cons_to_none (field w s at)

-- ---- The bytes end before the part does, as a program finds.

pub ends_before : (s : List ℕ) (at n : ℕ) → (length s < at) ⊎ (length s < length s) → length s < at + n
ends_before s at n (inl h) = omega arith
ends_before s at n (inr h) = absurd (omega arith)

pub ends_within : (s rest : List ℕ) (at n : ℕ) → at ≤ length s → rest ≡ take (length s - at) (drop at s) → length rest < n → length s < at + n
ends_within s rest at n l e h =
    let d = length-drop at s in
    let m : length rest ≡ length s - at = ap length (e ∙ take_all (length s - at) (drop at s) (omega arith)) ∙ d in
    omega arith

pub ends_in_line : (s rest : List ℕ) (at n : ℕ) → at ≤ length s → rest ≡ take (length s - at) (drop at s) → (n < 0) ⊎ (length rest < n)
    → length s < at + n
ends_in_line s rest at n l e (inl h) = absurd (omega arith)
ends_in_line s rest at n l e (inr h) = ends_within s rest at n l e h
