-- Lines that are given by their numbers: their text, that they are read as these numbers, and that what is so read is their text. Assumes nothing.
use mathlib.Core.Path.{◌≡◌, refl, ap, ◌∙◌, subst}
use mathlib.Core.Bool.{false}
use mathlib.Core.List.{List, [], ◌∷◌, ◌++◌, append_assoc}
use mathlib.Core.Option.{some}
use Prim.Native.Nat.{ℕ, suc, ◌+◌, ◌-◌, ◌*◌, ◌%◌, ◌≤◌, ◌<◌}
use native.Mathlib.Omega.{arith}
use native.Mathlib.Nat.{add-zero, mul-zero, mul-suc}
use lib.ListN.{length, drop, get_or, length-append}
use lib.Seq.{get_or-append-add, drop-cons, drop-length}
use borrow.Author.Tests.{eq-eqb, ne_eqb, le-ltb}
use Rattle.columns.specs.Column.{column, row, fields}
use Rattle.columns.proofs.Parts.{width}
use Rattle.columns.proofs.Rows.{Fit, column_length, row_length, row_read, fields_row}
use Rattle.grammar.specs.Sheet.{lines, line_at, open_line, not_lines}
use Rattle.grammar.specs.Printing.{text}
use Rattle.grammar.proofs.Ends.{no_lines, line_ended, all_ended}

-- Each line has five numbers that fit their columns.
abbrev pub Lines : List (List ℕ) → Type 0
Lines [] = Unit {0}
Lines (xs ∷ xss) = (length xs ≡ 5) × Fit 5 xs × Lines xss

-- The lines from n on are read as these numbers.
abbrev pub LinesAt : List ℕ → ℕ → List (List ℕ) → Type 0
LinesAt s n [] = Unit {0}
LinesAt s n (xs ∷ xss) = (line_at s n ≡ some xs) × LinesAt s (suc n) xss

-- A line is 26 bytes.
line_length : (xs : List ℕ) → length xs ≡ 5 → length (row 5 xs) ≡ 26
line_length xs e = row_length 5 xs ∙ ap (λ (k : ℕ). 5 * k + 1) e

text_length : (xss : List (List ℕ)) → Lines xss → length (text xss) ≡ 26 * length xss
unfolding text
text_length [] l = refl
text_length (xs ∷ xss) l =
    let h = line_length xs l.0 in
    let r = text_length xss l.2 in
    length-append (row 5 xs) (text xss) ∙ omega arith

-- A row ends with byte 10.
row_ends : (w : ℕ) (xs after : List ℕ) → get_or (row w xs ++ after) (w * length xs) 0 ≡ 10
unfolding row
row_ends w [] after = rw (mul-zero w)
row_ends w (x ∷ xs) after =
    let n : w * suc (length xs) ≡ length (column w x) + w * length xs = mul-suc w (length xs) ∙ omega (arith, column_length w x) in
    rw (append_assoc (column w x) (row w xs) after, n) (get_or-append-add (column w x) (row w xs ++ after) (w * length xs) 0 ∙ row_ends w xs after)

-- After n ended lines, these lines are read and ended.
lines_read : (before : List ℕ) (n : ℕ) (xss : List (List ℕ)) → Lines xss → length before ≡ 26 * n → open_line (before ++ text xss) n ≡ false
    → LinesAt (before ++ text xss) (n + 1) xss × (open_line (before ++ text xss) (n + length xss) ≡ false)
unfolding text line_at
lines_read before n [] l e o = (tt, rw (add-zero n) o)
lines_read before n (xs ∷ xss) l e o =
    let s : List ℕ = before ++ (row 5 xs ++ text xss) in
    let here : fields 5 5 s (26 * (n + 1 - 1)) ≡ some xs =
    let k : 26 * (n + 1 - 1) ≡ length before = omega arith in
    rw k (subst (λ (j : ℕ). fields j 5 s (length before) ≡ some xs) l.0 (row_read 4 xs before (text xss) l.1)) in
    let ended : get_or s (26 * n + 25) 0 ≡ 10 =
    let k : 26 * n + 25 ≡ length before + 5 * length xs = omega arith in
    rw k (get_or-append-add before (row 5 xs ++ text xss) (5 * length xs) 0 ∙ row_ends 5 xs (text xss)) in
    let moved : (before ++ row 5 xs) ++ text xss ≡ s = append_assoc before (row 5 xs) (text xss) in
    let next : length (before ++ row 5 xs) ≡ 26 * (n + 1) = length-append before (row 5 xs) ∙ omega (arith, line_length xs l.0) in
    let rest = lines_read (before ++ row 5 xs) (n + 1) xss l.2 next (rw moved (line_ended s n o ended)) in
    let k : n + 1 + 1 ≡ suc (n + 1) = omega arith in
    let m : n + suc (length xss) ≡ n + 1 + length xss = omega arith in
    let lines : LinesAt s (suc (n + 1)) xss = rw (← k, ← moved) rest.0 in
    let closed : open_line s (n + suc (length xss)) ≡ false = rw (m, ← moved) rest.1 in
    ((here, lines), closed)

-- The lines of a text are read as their numbers.
pub text_read : (xss : List (List ℕ)) → Lines xss → LinesAt (text xss) 1 xss
text_read xss l = (lines_read [] 0 xss l refl (no_lines (text xss))).0

-- A text has as many lines as are given, and it is a sheet of lines where these are 1 to 257.
pub text_lines : (xss : List (List ℕ)) → Lines xss → lines (text xss) ≡ length xss
text_lines xss l = omega (arith, text_length xss l)

pub text_ended : (xss : List (List ℕ)) → Lines xss → 1 ≤ length xss → length xss ≤ 257 → not_lines (text xss) ≡ false
unfolding not_lines
text_ended xss l low high =
    let n = text_length xss l in
    let k = text_lines xss l in
    let z : 0 + length xss ≡ length xss = omega arith in
    rw (ne_eqb (length (text xss)) 0 (λ e. omega arith), eq-eqb (length (text xss) % 26) 0 (omega arith), le-ltb 257 (lines (text xss)) (omega arith), k)
    (rw z at (lines_read [] 0 xss l refl (no_lines (text xss))).1)

-- Lines that are read and ended, to the end of the bytes, are the text of their numbers.
pub lines_text_law : (s : List ℕ) (n : ℕ) (xss : List (List ℕ)) → LinesAt s (n + 1) xss → length s ≡ 26 * (n + length xss) → open_line s (n + length xss) ≡ false
    → drop (26 * n) s ≡ text xss
unfolding text line_at width
lines_text_law s n [] t l o = let z : 26 * n ≡ length s = omega arith in rw z (drop-length s)
lines_text_law s n (xs ∷ xss) t l o =
    let k : 26 * (n + 1 - 1) ≡ 26 * n = omega arith in
    let inside : 26 * n + 25 < length s = omega arith in
    let next : suc (26 * n + 25) ≡ 26 * (n + 1) = omega arith in
    let m : n + suc (length xss) ≡ n + 1 + length xss = omega arith in
    let j : suc (n + 1) ≡ n + 1 + 1 = omega arith in
    let end : drop (26 * n + 25) s ≡ 10 ∷ drop (26 * (n + 1)) s =
    drop-cons s (26 * n + 25) 0 inside ∙ ap (λ (b : ℕ). b ∷ drop (suc (26 * n + 25)) s) (all_ended s n (n + suc (length xss)) (omega arith) o)
    ∙ ap (λ (i : ℕ). 10 ∷ drop i s) next in
    fields_row 5 5 s (26 * n) xs (drop (26 * (n + 1)) s) (rw k at t.0) end
    ∙ ap (λ (r : List ℕ). row 5 xs ++ r) (lines_text_law s (n + 1) xss (rw j at t.1) (rw m at l) (rw m at o))
