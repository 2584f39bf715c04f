-- Whether a table is kept depends on its first cells only: a table that was stored elsewhere and is brought back is kept too. Assumes nothing.
use mathlib.Core.List.{List, ◌++◌}
use mathlib.Core.Path.{◌≡◌, refl, sym, ap, ap₂, ◌∙◌, subst}
use Prim.Native.Nat.{ℕ, ◌+◌, ◌*◌, ◌≤◌, ◌<◌}
use native.Mathlib.Omega.{arith}
use lib.ListN.{length, get_or, take, drop, length-append, length-drop, get_or-append}
use lib.Seq.{drop_at, get_or-take, length-take-le}
use Rattle.grammar.specs.Rule.{Rule}
use Rattle.schema.specs.Cells.{cell_at}
use Rattle.schema.specs.Closed.{Closed}
use Rattle.schema.specs.Derivation.{Pair, ◌at◌}
use Rattle.schema.specs.Examined.{Reaches}
use Rattle.schema.specs.Table.{Within, cell, cells, held, reach, contents, blanked, Table}
use Rattle.schema.proofs.Answer.{reached_cell}
use Rattle.schema.proofs.Cell.{PairWithin, cell_below}
use Rattle.kept.specs.Kept.{kept, retained, KeptTable, blank, asked, further, corrected}

-- The first N numbers of one table, and behind them what another has there.
abbrev pub joined : ℕ → List ℕ → List ℕ → List ℕ
joined N T U = take N T ++ drop N U

module _ (N : ℕ) (T U : List ℕ) (room : N ≤ length T) where
  joined_at : (i : ℕ) → i < N → get_or (joined N T U) i 0 ≡ get_or T i 0
  joined_at i l = get_or-append (take N T) (drop N U) 0 i (rw (length-take-le N T room) l) ∙ get_or-take N T i 0 l

  pub joined_later : drop N (joined N T U) ≡ drop N U
  joined_later = drop_at (take N T) (drop N U) N (length-take-le N T room)

  pub joined_length : N ≤ length U → length (joined N T U) ≡ length U
  joined_length l =
      let a = length-append (take N T) (drop N U) in
      let b = length-take-le N T room in
      let c = length-drop N U in
      omega arith

-- The first N cells are those of the one table.
pub joined_cell : (N : ℕ) (T U : List ℕ) → 2 * N ≤ length T → (i : ℕ) → i < N → cell_at (joined (2 * N) T U) i ≡ cell_at T i
joined_cell N T U room i l =
    ap₂ {C = ℕ × ℕ} (λ (a b : ℕ). (a, b)) (joined_at (2 * N) T U room (2 * i) (omega arith)) (joined_at (2 * N) T U room (2 * i + 1) (omega arith))

module _ (rule : ℕ → Rule) (v : ℕ) (closed : Closed v rule) where
  -- A table that a question leaves, by its first cells.
  module _ (s : List ℕ) (x : Pair) (start start' : Pair → ℕ × ℕ) (O O' T T' : List ℕ) (w : PairWithin v (length s) x)
      (same : (A p : ℕ) → Within v (length s) A p → contents (length s) T' (A at p) ≡ contents (length s) T (A at p))
      (starts : (A p : ℕ) → Within v (length s) A p → start' (A at p) ≡ start (A at p)) where
    same_held : (y : Pair) → PairWithin v (length s) y → held (length s) T' y ≡ held (length s) T y
    same_held (A at p) u = ap (λ (k : ℕ × ℕ). k.0) (same A p u)

    same_reach : (y : Pair) → PairWithin v (length s) y → reach (length s) T' y ≡ reach (length s) T y
    same_reach (A at p) u = ap (λ (k : ℕ × ℕ). k.1) (same A p u)

    left_same : Table rule s v x start O T → drop (2 * cells v (length s)) T' ≡ drop (2 * cells v (length s)) O' → length T' ≡ length O' → Table rule s v x start' O' T'
    left_same t later size = record {
      holds = λ y r.
          let k = t.holds y r in
          let w = (reached_cell rule s v closed x w r).0 in
          (k.0, k.1, same_held y w ∙ k.2, subst (Reaches rule s y k.0) (sym (same_reach y w)) k.3);
      others = λ A p u d. t.others A p u (λ e. d (same_held (A at p) u ∙ e ∙ sym (ap (λ (k : ℕ × ℕ). k.0) (starts A p u))));
      others_reach = λ A p u d. t.others_reach A p u (λ e. d (same_reach (A at p) u ∙ e ∙ sym (ap (λ (k : ℕ × ℕ). k.1) (starts A p u))));
      later = later;
      size = size;
    }

  joined_cells : (n : ℕ) (O U : List ℕ) → 2 * cells v n ≤ length O → (A p : ℕ) → Within v n A p → contents n (joined (2 * cells v n) O U) (A at p) ≡ contents n O (A at p)
  joined_cells n O U l A p w = joined_cell (cells v n) O U l (cell n (A at p)) (cell_below v n (A at p) w)

  -- A kept table, by its first cells.
  pub kept_first : {s T : List ℕ} → KeptTable rule v s T → (T' : List ℕ) → 2 * cells v (length s) ≤ length T → 2 * cells v (length s) ≤ length T'
      → ((A p : ℕ) → Within v (length s) A p → contents (length s) T' (A at p) ≡ contents (length s) T (A at p)) → KeptTable rule v s T'
  kept_first (blank z) T' l m same = blank (λ A p w. same A p w ∙ z A p w)
  kept_first {s} {T} (asked {O = O} {A = A} {p = p} w t) T' l m same = asked w (left_same s (A at p) blanked blanked O T' T T' w same (λ B q u. refl) t refl refl)
  kept_first {s} {T} (further {O = O} {A = A} {p = p} w k t) T' l m same =
      let N = 2 * cells v (length s) in
      let O' = joined N O T' in
      let room : N ≤ length O = subst (λ (i : ℕ). N ≤ i) t.size l in
      let long : length O' ≡ length T' = joined_length N O T' room m in
      let alike = joined_cells (length s) O T' room in
      further w (kept_first k O' room (subst (λ (i : ℕ). N ≤ i) (sym long) m) alike)
      (left_same s (A at p) (contents (length s) O) (contents (length s) O') O O' T T' w same alike t (sym (joined_later N O T' room)) (sym long))
  kept_first {T = T} (corrected {s = s} {s' = s'} {O = O} {A = A} {p = p} {c = c} w b k d t) T' l m same =
      let N = 2 * cells v (length s') in
      let O' = joined N O T' in
      let room : N ≤ length O = subst (λ (i : ℕ). N ≤ i) t.size l in
      let long : length O' ≡ length T' = joined_length N O T' room m in
      let alike = joined_cells (length s') O T' room in
      let before = kept_first k O' (subst (λ (n : ℕ). 2 * cells v n ≤ length O) d.size room)
      (subst (λ (n : ℕ). 2 * cells v n ≤ length O') d.size (subst (λ (i : ℕ). N ≤ i) (sym long) m))
      (subst (λ (n : ℕ). (B q : ℕ) → Within v n B q → contents n O' (B at q) ≡ contents n O (B at q)) d.size alike) in
      corrected w b before d
      (left_same s' (A at p) (retained (c + 1) (length s') O) (retained (c + 1) (length s') O') O O' T T' w same (λ B q u. ap (kept (c + 1) q) (alike B q u)) t (sym (joined_later N O T' room)) (sym long))
