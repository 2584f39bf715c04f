-- A line that is appended: its bytes. Assumes nothing.
use mathlib.Core.Path.{◌≡◌, sym, ap, ◌∙◌}
use mathlib.Core.List.{List, [], ◌∷◌, ◌++◌, append_assoc, append-nil}
use Prim.Native.Nat.{ℕ, ◌+◌, ◌*◌, ◌≤◌}
use native.Mathlib.Omega.{arith}
use lib.ListN.{length, take, drop, length-append, length-drop}
use lib.Seq.{take_at, drop-append-add, drop-drop}
use Rattle.schema.proofs.LineLength.{lines_length}
use Rattle.schema.specs.Line.{Line, line_bytes, lines_bytes}

bytes_append : (ls : List Line) (l : Line) → lines_bytes (ls ++ l ∷ []) ≡ lines_bytes ls ++ line_bytes l
unfolding lines_bytes
bytes_append [] l = append-nil (line_bytes l)
bytes_append (m ∷ ls) l = ap (λ (b : List ℕ). line_bytes m ++ b) (bytes_append ls l) ∙ sym (append_assoc (line_bytes m) (lines_bytes ls) (line_bytes l))

-- A line is laid down after those already written, and the output beyond is as it was.
pub line_laid : (ls : List Line) (l : Line) (k : ℕ) (out₀ out out' : List ℕ) → k ≡ length ls → out ≡ lines_bytes ls ++ drop (49 * length ls) out₀
    → out' ≡ take (49 * k) out ++ (line_bytes l ++ drop (49 * k + 49) out) → out' ≡ lines_bytes (ls ++ l ∷ []) ++ drop (49 * length (ls ++ l ∷ [])) out₀
line_laid ls l k out₀ out out' e f g =
    let b = lines_length ls in
    let rest = drop (49 * length ls) out₀ in
    let t : take (49 * k) (lines_bytes ls ++ rest) ≡ lines_bytes ls = take_at (lines_bytes ls) rest (49 * k) (omega arith) in
    let q : 49 * k + 49 ≡ length (lines_bytes ls) + 49 = omega arith in
    let d : drop (49 * k + 49) (lines_bytes ls ++ rest) ≡ drop (49 * length ls + 49) out₀ =
    ap (λ (n : ℕ). drop n (lines_bytes ls ++ rest)) q ∙ drop-append-add (lines_bytes ls) rest 49 ∙ drop-drop 49 (49 * length ls) out₀ in
    let a = length-append ls (l ∷ []) in
    let m : 49 * length (ls ++ l ∷ []) ≡ 49 * length ls + 49 = omega arith in
    g ∙ rw (f, t, d, bytes_append ls l, m) (sym (append_assoc (lines_bytes ls) (line_bytes l) (drop (49 * length ls + 49) out₀)))

-- The output keeps its length.
pub laid_length : (ls : List Line) (out₀ out : List ℕ) → 49 * length ls ≤ length out₀ → out ≡ lines_bytes ls ++ drop (49 * length ls) out₀ → length out ≡ length out₀
laid_length ls out₀ out l e =
    let b = lines_length ls in
    let d = length-drop (49 * length ls) out₀ in
    ap length e ∙ length-append (lines_bytes ls) (drop (49 * length ls) out₀) ∙ omega arith
