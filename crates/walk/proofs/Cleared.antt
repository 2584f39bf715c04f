-- A table whose first cells are blanked, and that a blank table is right. Assumes nothing.
use mathlib.Core.Path.{◌≡◌, ◌∙◌}
use mathlib.Core.List.{List, ◌++◌}
use Prim.Native.Nat.{ℕ, ◌+◌, ◌*◌, ◌≤◌, ◌<◌}
use native.Mathlib.Omega.{arith}
use lib.ListN.{length, get_or, drop, replicate, length-replicate, length-append, length-drop, get_or-replicate, get_or-append}
use lib.Seq.{drop_at}
use Rattle.grammar.specs.Rule.{Rule}
use Rattle.schema.specs.Cells.{held_at, reach_at}
use Rattle.schema.specs.Derivation.{◌at◌}
use Rattle.schema.specs.Table.{cell, cells}
use Rattle.schema.proofs.Cell.{cell_below}
use Rattle.walk.specs.Walk.{RightTable}
use Rattle.walk.proofs.Marks.{settled_full}

-- The slice with its first N numbers blank.
abbrev pub cleared : ℕ → List ℕ → List ℕ
cleared N T = replicate N 0 ++ drop N T

pub cleared_at : (N : ℕ) (T : List ℕ) (i : ℕ) → i < N → get_or (cleared N T) i 0 ≡ 0
cleared_at N T i l = get_or-append (replicate N 0) (drop N T) 0 i (rw (length-replicate {A = ℕ} N 0) l) ∙ get_or-replicate N i 0 0 l

-- A table with its first N cells blank.
pub cleared_held : (N : ℕ) (T : List ℕ) (i : ℕ) → i < N → held_at (cleared (2 * N) T) i ≡ 0
cleared_held N T i l = cleared_at (2 * N) T (2 * i) (omega arith)

pub cleared_reach : (N : ℕ) (T : List ℕ) (i : ℕ) → i < N → reach_at (cleared (2 * N) T) i ≡ 0
cleared_reach N T i l = cleared_at (2 * N) T (2 * i + 1) (omega arith)

pub cleared_length : (N : ℕ) (T : List ℕ) → N ≤ length T → length (cleared N T) ≡ length T
cleared_length N T l =
    let a = length-append (replicate N 0) (drop N T) in
    let b = length-replicate {A = ℕ} N 0 in
    let c = length-drop N T in
    omega arith

pub cleared_later : (N : ℕ) (T : List ℕ) → drop N (cleared N T) ≡ drop N T
cleared_later N T = drop_at (replicate N 0) (drop N T) N (length-replicate {A = ℕ} N 0)

-- A blank table is right.
pub blank_right : (rule : ℕ → Rule) (s : List ℕ) (v : ℕ) (O : List ℕ) → ((i : ℕ) → i < cells v (length s) → held_at O i ≡ 0) → RightTable rule s v O
blank_right rule s v O blank = record {
  no_open = λ i l e. let z = blank i l in omega arith;
  right = λ B q r i m. absurd (settled_full r m (blank (cell (length s) (B at q)) (cell_below v (length s) (B at q) i)));
  whole = λ B C D E q r i m e. absurd (settled_full r m (blank (cell (length s) (B at q)) (cell_below v (length s) (B at q) i)));
  reaching = λ B q r i m. absurd (settled_full r m (blank (cell (length s) (B at q)) (cell_below v (length s) (B at q) i)));
}
