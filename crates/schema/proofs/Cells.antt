-- The laws of a stored cell: all that the proofs above know of how a list holds a table. Assumes nothing.
use mathlib.Core.List.{List}
use mathlib.Core.Logic.{◌≢◌}
use mathlib.Core.Path.{◌≡◌, sym, ap, ap₂, ◌∙◌, subst}
use Prim.Native.Nat.{ℕ, ◌+◌, ◌-◌, ◌*◌, ◌≤◌, ◌<◌}
use native.Mathlib.Omega.{arith}
use lib.ListN.{length, get_or, set, drop, length-set}
use lib.Seq.{get_or-set_same, get_or-set_other, get_or-drop, drop-set-lt, drop-drop, set-set, set_comm, lt-length-set}
use Rattle.calls.proofs.Table.{Mark, Put}
use Rattle.schema.specs.Cells.{held_at, reach_at, cell_at, stored, HasCell}

-- There is what was stored, the outcome
pub stored_there : (T : List ℕ) (i c m : ℕ) → HasCell T i → held_at (stored T i c m) i ≡ c
unfolding stored
stored_there T i c m l = get_or-set_other (set T (2 * i) c) (2 * i + 1) (2 * i) m 0 (λ e. omega arith) ∙ get_or-set_same T (2 * i) c 0 (omega arith)

-- and the reach,
pub stored_reach : (T : List ℕ) (i c m : ℕ) → HasCell T i → reach_at (stored T i c m) i ≡ m
unfolding stored
stored_reach T i c m l = get_or-set_same (set T (2 * i) c) (2 * i + 1) m 0 (lt-length-set T (2 * i) c l)

-- elsewhere what was there before.
pub stored_elsewhere : (T : List ℕ) (i j c m : ℕ) → j ≢ i → held_at (stored T i c m) j ≡ held_at T j
unfolding stored
stored_elsewhere T i j c m d =
    get_or-set_other (set T (2 * i) c) (2 * i + 1) (2 * j) m 0 (λ e. omega arith) ∙ get_or-set_other T (2 * i) (2 * j) c 0 (λ e. d (omega arith))

pub reach_elsewhere : (T : List ℕ) (i j c m : ℕ) → j ≢ i → reach_at (stored T i c m) j ≡ reach_at T j
unfolding stored
reach_elsewhere T i j c m d =
    get_or-set_other (set T (2 * i) c) (2 * i + 1) (2 * j + 1) m 0 (λ e. d (omega arith)) ∙ get_or-set_other T (2 * i) (2 * j + 1) c 0 (λ e. omega arith)

-- The same of both numbers.
pub stored_cell : (T : List ℕ) (i c m : ℕ) → HasCell T i → cell_at (stored T i c m) i ≡ (c, m)
stored_cell T i c m l = ap₂ (λ (a b : ℕ). (a, b)) (stored_there T i c m l) (stored_reach T i c m l)

pub cell_elsewhere : (T : List ℕ) (i j c m : ℕ) → j ≢ i → cell_at (stored T i c m) j ≡ cell_at T j
cell_elsewhere T i j c m d = ap₂ (λ (a b : ℕ). (a, b)) (stored_elsewhere T i j c m d) (reach_elsewhere T i j c m d)

-- Later cells are unchanged,
pub stored_later : (N : ℕ) (T : List ℕ) (i c m : ℕ) → i < N → drop (2 * N) (stored T i c m) ≡ drop (2 * N) T
unfolding stored
stored_later N T i c m l = drop-set-lt (2 * N) (set T (2 * i) c) (2 * i + 1) m (omega arith) ∙ drop-set-lt (2 * N) T (2 * i) c (omega arith)

-- and so is the length.
pub stored_length : (T : List ℕ) (i c m : ℕ) → length (stored T i c m) ≡ length T
unfolding stored
stored_length T i c m = length-set (set T (2 * i) c) (2 * i + 1) m ∙ length-set T (2 * i) c

-- What is unchanged from a number on is unchanged from a later one on.
pub later_from : (m N : ℕ) (T U : List ℕ) → m ≤ N → drop m T ≡ drop m U → drop N T ≡ drop N U
later_from m N T U l e =
    let q : m + (N - m) ≡ N = omega arith in
    ap (λ (k : ℕ). drop k T) (sym q) ∙ sym (drop-drop (N - m) m T) ∙ ap (drop (N - m)) e ∙ drop-drop (N - m) m U ∙ ap (λ (k : ℕ). drop k U) q

-- Where two tables are the same from the cell of a number on, each cell there is the same.
pub cell_later : (N : ℕ) (T U : List ℕ) → drop (2 * N) T ≡ drop (2 * N) U → (p : ℕ) → cell_at T (N + p) ≡ cell_at U (N + p)
cell_later N T U e p =
    let f : 2 * N + 2 * p ≡ 2 * (N + p) = omega arith in
    let g : 2 * N + (2 * p + 1) ≡ 2 * (N + p) + 1 = omega arith in
    ap₂ (λ (a b : ℕ). (a, b)) (subst (λ (k : ℕ). get_or T k 0 ≡ get_or U k 0) f (number (2 * p))) (subst (λ (k : ℕ). get_or T k 0 ≡ get_or U k 0) g (number (2 * p + 1)))
  where
    number : (j : ℕ) → get_or T (2 * N + j) 0 ≡ get_or U (2 * N + j) 0
    number j = sym (get_or-drop (2 * N) T j 0) ∙ ap (λ (W : List ℕ). get_or W j 0) e ∙ get_or-drop (2 * N) U j 0

-- Stored twice, the later holds.
pub stored_twice : (T : List ℕ) (i c k d m : ℕ) → stored (stored T i c k) i d m ≡ stored T i d m
unfolding stored
stored_twice T i c k d m =
    ap (λ (U : List ℕ). set U (2 * i + 1) m) (set_comm (set T (2 * i) c) (2 * i + 1) (2 * i) k d (λ e. omega arith))
    ∙ set-set (set (set T (2 * i) c) (2 * i) d) (2 * i + 1) k m ∙ ap (λ (U : List ℕ). set U (2 * i + 1) m) (set-set T (2 * i) c d)

-- The table of marks that a table of codes stands for: a store puts the code's mark.
abbrev pub view : {A : Type 0} → (ℕ → Mark A) → List ℕ → ℕ → Mark A
view mark T i = mark (held_at T i)

pub view_stored : {A : Type 0} (mark : ℕ → Mark A) (T : List ℕ) (i c m : ℕ) → HasCell T i → Put (view mark T) i (mark c) (view mark (stored T i c m))
view_stored mark T i c m l = record { there = ap mark (stored_there T i c m l); others = λ j d. ap mark (stored_elsewhere T i j c m d) }
