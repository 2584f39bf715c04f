-- Lines that are written as document 01 says are read back. Assumes nothing.
use mathlib.Core.List.{List, [], ◌∷◌, ◌++◌, append_assoc}
use mathlib.Core.Option.{some}
use mathlib.Core.Path.{◌≡◌, refl, sym, ap, ◌∙◌}
use Prim.Native.Nat.{ℕ, zero, suc, ◌+◌, ◌*◌, ◌<◌}
use native.Mathlib.Nat.{mul-zero, mul-suc}
use native.Mathlib.Omega.{arith}
use lib.ListN.{length, get_or, get_elem?, length-append}
use lib.Seq.{get_or-append-add}
use borrow.Author.Tests.{eq-eqb}
use Rattle.columns.specs.Column.{column, row, fields}
use Rattle.columns.proofs.Rows.{Fit, column_length, row_read}
use Rattle.schema.specs.Line.{Line, line, line_bytes, lines_bytes}
use Rattle.schema.proofs.LineLength.{line_length, lines_length}
use Rattle.checker.specs.Checker.{line_at}
use Rattle.checker.specs.Proper.{Reads}

-- The numbers of a line, and of each of some lines, fit 8 columns.
abbrev pub FitLine : Line → Type 0
FitLine (line A p flag e i j) = Fit 8 (A ∷ p ∷ flag ∷ e ∷ i ∷ j ∷ [])

abbrev pub FitLines : List Line → Type 0
FitLines [] = Unit {0}
FitLines (l ∷ ls) = FitLine l × FitLines ls

-- A row ends with byte 10.
row_end : (w : ℕ) (xs before after : List ℕ) → get_or (before ++ (row w xs ++ after)) (length before + w * length xs) 0 ≡ 10
unfolding row
row_end w [] before after = rw (mul-zero w) (get_or-append-add before (10 ∷ after) 0 0)
row_end w (x ∷ xs) before after =
    let c = column w x in
    let whole : before ++ ((c ++ row w xs) ++ after) ≡ (before ++ c) ++ (row w xs ++ after) =
    ap (λ (s : List ℕ). before ++ s) (append_assoc c (row w xs) after) ∙ sym (append_assoc before c (row w xs ++ after)) in
    let place : length before + w * suc (length xs) ≡ length (before ++ c) + w * length xs =
    omega (arith, mul-suc w (length xs), length-append before c, column_length w x) in
    rw (whole, place) (row_end w xs (before ++ c) after)

-- A line is read where it stands.
line_here : (l : Line) (before after : List ℕ) (k : ℕ) → FitLine l → length before ≡ 49 * k → line_at (before ++ (line_bytes l ++ after)) (suc k) ≡ some l
unfolding line_at
line_here (line A p flag e i j) before after k f n =
    let xs = A ∷ p ∷ flag ∷ e ∷ i ∷ j ∷ [] in
    let s = before ++ (row 8 xs ++ after) in
    let z : 49 * k + 48 ≡ length before + 8 * 6 = omega arith in
    let ended : get_or s (49 * k + 48) 0 ≡ 10 = ap (λ (m : ℕ). get_or s m 0) z ∙ row_end 8 xs before after in
    let read : fields 6 8 s (49 * k) ≡ some xs = ap (fields 6 8 s) (sym n) ∙ row_read 7 xs before after f in
    rw (eq-eqb (get_or s (49 * k + 48) 0) 10 ended, read)

lines_here : (ls : List Line) (before : List ℕ) (k : ℕ) → FitLines ls → length before ≡ 49 * k → (i : ℕ) → i < length ls
    → line_at (before ++ lines_bytes ls) (suc (k + i)) ≡ get_elem? ls i
unfolding lines_bytes
lines_here [] before k f n i h = absurd (omega arith)
lines_here (l ∷ ls) before k f n zero h =
    let z : k + 0 ≡ k = omega arith in
    rw z (line_here l before (lines_bytes ls) k f.0 n)
lines_here (l ∷ ls) before k f n (suc i) h =
    let z : k + suc i ≡ suc k + i = omega arith in
    let m : length (before ++ line_bytes l) ≡ 49 * suc k = length-append before (line_bytes l) ∙ omega (arith, line_length l) in
    rw (z, ← append_assoc before (line_bytes l) (lines_bytes ls)) (lines_here ls (before ++ line_bytes l) (suc k) f.1 m i (omega arith))

-- The bytes of lines that fit are these lines.
pub written_reads : (ls : List Line) → FitLines ls → Reads (lines_bytes ls) ls
written_reads ls f =
    record {
      size = lines_length ls;
      line = λ i h. let z : 0 + i ≡ i = omega arith in rw z at (lines_here ls [] 0 f refl i h);
    }
