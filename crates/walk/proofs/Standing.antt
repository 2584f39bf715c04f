-- The walk that answers: the work slice holds the callers of the open pairs, one above the other. What holds before each step. Assumes nothing.
use mathlib.Core.Path.{◌≡◌, refl, sym, ap, ◌∙◌, subst}
use mathlib.Core.Bool.{Bool}
use mathlib.Core.List.Memᴰ
use mathlib.Core.List.{List, [], ◌∷◌, map, Memᴰ}
use Prim.Native.Nat.{ℕ, suc, ◌≤◌, ◌<◌}
use native.Mathlib.Omega.{arith}
use lib.ListN.{length, get_or, set, drop}
use lib.Seq.{get_or-set_other}
use Rattle.calls.proofs.Depth.{trail_length}
use Rattle.calls.proofs.Follow.{In, mem_in}
use Rattle.calls.proofs.System.{System}
use Rattle.calls.proofs.Trail as theory
use Rattle.calls.proofs.Table.{Mark}
use Rattle.grammar.specs.Rule.{Rule}
use Rattle.schema.specs.Cells.{held_at, stored}
use Rattle.schema.proofs.Cells.{stored_elsewhere, view}
use Rattle.schema.specs.Derivation.{Pair, ◌at◌, Result, Stop}
use Rattle.schema.specs.Table.{Within, cell, cells}
use Rattle.schema.proofs.Held.{held_cells}
use Rattle.schema.proofs.Cell.{pair_of, PairWithin, cell_pair, pair_cell}
use Rattle.cells.specs.Packed.{entry}
use Rattle.step.specs.Codes.{Settled, Called, first_called, second_called}
use Rattle.finish.specs.Closing.{Trail, only_asked, called_by}
use Rattle.step.specs.Step.{top_of, called_of}
use Rattle.step.specs.declared.State.{State}
use Rattle.walk.proofs.Marks.{mark}
use Rattle.walk.proofs.Through.{Through}

-- The callers of the open cells: the work slice holds d of them, the latest last, and each called the one before it as its entry says.
pub data Stacked (rule : ℕ → Rule) (s T W : List ℕ) : ℕ → List ℕ → Type 0 where
  alone : {i : ℕ} → Stacked rule s T W 0 (i ∷ [])
  above : {d i j : ℕ} {l : List ℕ} (k : Bool) → get_or W d 0 ≡ entry k (pair_of (length s) i) → Called rule s T k (pair_of (length s) i) (pair_of (length s) j)
      → Stacked rule s T W d (i ∷ l) → Stacked rule s T W (suc d) (j ∷ i ∷ l)

-- What holds before each step, in a question about x: O and U are the table and the work slice before x was opened.
pub record Standing (rule : ℕ → Rule) (s : List ℕ) (v : ℕ) (x : Pair) (O U T W : List ℕ) (y : State) : Type 0 where
  pub stack : List ℕ
  pub within : Within v (length s) y.variable y.position
  pub called : Called rule s T y.second (top_of y) (called_of y)
  pub through : Through rule s v x O T (cell (length s) (top_of y) ∷ stack)
  pub stacked : Stacked rule s T W y.depth (cell (length s) (top_of y) ∷ stack)
  pub work_later : drop (cells v (length s)) W ≡ drop (cells v (length s)) U
  pub work_size : length W ≡ length U

module _ {rule : ℕ → Rule} {s : List ℕ} where
  -- A cell that holds no result may be stored to: what was called is called still.
  pub called_still : {T : List ℕ} {k : Bool} {x y : Pair} (i c m : ℕ) → ((t : Result) → ¬ Settled (length s) (held_at T i) t) → Called rule s T k x y
      → Called rule s (stored T i c m) k x y
  called_still i c far n (first_called e) = first_called e
  called_still {T} i c far n (second_called {B = B} {p = p} {t = t} e m) =
      second_called e
      (subst (λ (u : ℕ). Settled (length s) u t)
      (sym (stored_elsewhere T i (cell (length s) (B at p)) c far (λ z. n t (subst (λ (j : ℕ). Settled (length s) (held_at T j) t) z m)))) m)

  pub stacked_still : {T W : List ℕ} {d : ℕ} {l : List ℕ} (i c m : ℕ) → ((t : Result) → ¬ Settled (length s) (held_at T i) t) → Stacked rule s T W d l
      → Stacked rule s (stored T i c m) W d l
  stacked_still i c m n alone = alone
  stacked_still i c m n (above k e h t) = above k e (called_still i c m n h) (stacked_still i c m n t)

  -- The work slice above the callers is free.
  pub stacked_above : {T W : List ℕ} {d : ℕ} {l : List ℕ} (i c : ℕ) → d ≤ i → Stacked rule s T W d l → Stacked rule s T (set W i c) d l
  stacked_above i c b alone = alone
  stacked_above {W = W} i c b (above {d} k e h t) = above k (get_or-set_other W i d c 0 (λ z. omega arith) ∙ e) h (stacked_above i c (omega arith) t)

  -- There are as many callers as open pairs but one.
  pub stacked_length : {T W : List ℕ} {d : ℕ} {l : List ℕ} → Stacked rule s T W d l → length l ≡ suc d
  stacked_length alone = refl
  stacked_length (above k e h t) = ap suc (stacked_length t)

-- The open cells as pairs.
module _ (rule : ℕ → Rule) (s : List ℕ) (v : ℕ) (x : Pair) (w : PairWithin v (length s) x) {σ : System ℕ Result Stop} {M : ℕ → Mark Result} {T W : List ℕ} where
  pub trail_pairs : {d : ℕ} {l : List ℕ} → theory.Trail σ M (cell (length s) x) l → Stacked rule s T W d l
      → Trail W x d (map (pair_of (length s)) l)
  trail_pairs theory.start alone = subst (λ (y : Pair). Trail W x 0 (y ∷ [])) (sym (pair_cell v (length s) x w)) only_asked
  trail_pairs (theory.push {x = i} {y = j} {s = r} t n l) (above k e h u) = called_by k fresh e (trail_pairs t u)
    where
      fresh : Memᴰ (pair_of (length s) j) (map (pair_of (length s)) (i ∷ r)) → ⊥
      fresh m =
          let o = Memᴰ.of_map (pair_of (length s)) (i ∷ r) m in
          let e : o.0 ≡ j = sym (cell_pair (length s) o.0) ∙ ap (cell (length s)) o.2 ∙ cell_pair (length s) j in
          n (subst (λ (u : ℕ). In u (i ∷ r)) e (mem_in o.0 (i ∷ r) o.1))
  trail_pairs {d = d} theory.bottom x4 = elim x4 [ ]

-- With no caller in the work slice, the top is the asked pair.
pub at_bottom : {rule : ℕ → Rule} {s T W : List ℕ} {σ : System ℕ Result Stop} {M : ℕ → Mark Result} {root i : ℕ} {l : List ℕ} → theory.Trail σ M root (i ∷ l)
    → Stacked rule s T W 0 (i ∷ l) → i ≡ root
at_bottom theory.start alone = refl
at_bottom {rule = rule} {s = s} {T = T} {W = W} {σ = σ} {M = M} {root = root} {i = i} (theory.push _ _ _) x15 = elim x15 [ ]

-- There is room for one caller more.
pub deep_enough : {rule : ℕ → Rule} {s : List ℕ} {v : ℕ} {x : Pair} {O T W l : List ℕ} {d : ℕ} → Through rule s v x O T l → Stacked rule s T W d l
    → d < cells v (length s)
deep_enough {rule} {s} {O = O} t k =
    let n = trail_length (held_cells rule s (view mark O)) t.inv.below t.inv.trail in
    let e = stacked_length k in
    omega arith
