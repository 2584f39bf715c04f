-- What looking at a pair finds, in the words of the theory of calls: the pair's cell number is a number of the system. Assumes nothing.
use mathlib.Core.Bool.{Bool, true≢false}
use mathlib.Core.Logic.{inl, ◌≢◌}
use mathlib.Core.Path.{◌≡◌, refl, sym, ap, ◌∙◌, subst}
use mathlib.Core.List.{List, ◌∷◌}
use Prim.Native.Nat.{ℕ, ◌≤◌}
use lib.ListN.{length}
use Rattle.calls.proofs.Holding.{holding, holding_free}
use Rattle.calls.proofs.Invariant.{Inv, Bounded, both_fits}
use Rattle.calls.proofs.Numbered.{kind_number, first_number, second_number, join_number}
use Rattle.calls.proofs.System.{System}
use Rattle.calls.proofs.Table.{settled}
use Rattle.calls.proofs.Trail.{Link, link_first, link_second, Fits, leaf_fits}
use Rattle.grammar.specs.Rule.{Rule}
use Rattle.schema.proofs.Cells.{view}
use Rattle.schema.specs.Closed.{Closed}
use Rattle.schema.specs.Derivation.{Pair, ◌at◌, Result, Stop, calls, act, second}
use Rattle.schema.specs.Table.{cell, cells, held}
use Rattle.schema.proofs.Answer.{gts_cells}
use Rattle.schema.proofs.Held.{held_cells}
use Rattle.schema.proofs.Cell.{PairWithin}
use Rattle.schema.proofs.Closed.{numbering}
use Rattle.schema.proofs.System.{gts, kind_of, first_is, second_is}
use Rattle.step.specs.Codes.{Settled, Called, first_called, second_called, Given, by_leaf, by_calls}
use Rattle.walk.proofs.Marks.{mark, mark_settled}

-- The cell is not settled in the table.
abbrev pub Free : List ℕ → ℕ → Type 0
Free O i = (r : Result) → view mark O i ≢ settled r

-- The latest open pair was not settled before.
pub top_free : {σ : System ℕ Result Stop} {N root : ℕ} {l : List ℕ} (O T : List ℕ) (i : ℕ) → Inv σ N (view mark O) root (view mark T) (i ∷ l) → Free O i
top_free O T i inv r e = let t = inv.keeps i r e in let o = inv.on_open i (inl refl) in true≢false (cc)

module _ (rule : ℕ → Rule) (s : List ℕ) (v : ℕ) (closed : Closed v rule) where
  -- What the cell of a pair does, the pair's rule does.
  pub cell_kind : (x : Pair) → PairWithin v (length s) x → (gts_cells rule s).kind (cell (length s) x) ≡ kind_of (act rule s x)
  unfolding gts
  cell_kind x w = kind_number (numbering rule s v closed) x w

  module _ (A p B C D : ℕ) (w : PairWithin v (length s) (A at p)) (e : act rule s (A at p) ≡ calls B C D) where
    -- A pair that calls: its first and its second.
    pub cell_first : (gts_cells rule s).first (cell (length s) (A at p)) ≡ cell (length s) (B at p)
    cell_first = first_number (numbering rule s v closed) (A at p) w ∙ ap (cell (length s)) (first_is rule s A p e)

    pub cell_second : (t : Result) → (gts_cells rule s).second (cell (length s) (A at p)) t ≡ cell (length s) (second C D p t)
    cell_second t = second_number (numbering rule s v closed) (A at p) w t ∙ ap (cell (length s)) (second_is rule s A p e t)

    cell_join : (t r : Result) → (gts_cells rule s).join (cell (length s) (A at p)) t r ≡ r
    unfolding gts
    cell_join t r = join_number (numbering rule s v closed) (A at p) w t r

  module _ (short : length s ≤ 4096) (T : List ℕ) where
    -- A settled cell has the mark of its result.
    pub settled_at : (y : Pair) {r : Result} {i : ℕ} → i ≡ cell (length s) y → Settled (length s) (held (length s) T y) r → view mark T i ≡ settled r
    settled_at y {r} e m = ap (view mark T) e ∙ mark_settled (length s) (held (length s) T y) r short m

  -- ---- Where what the table O holds is given, and the pair is not settled in it.

  module _ (short : length s ≤ 4096) (O T : List ℕ) where
    -- What the cell of such a pair does, the pair's rule does.
    pub free_kind : (x : Pair) → PairWithin v (length s) x → Free O (cell (length s) x) → (held_cells rule s (view mark O)).kind (cell (length s) x) ≡ kind_of (act rule s x)
    free_kind x w f = holding_free (gts_cells rule s) (view mark O) (cell (length s) x) f ∙ cell_kind x w

    -- A called pair is linked to its caller.
    pub called_link : {k : Bool} {x y : Pair} → PairWithin v (length s) x → Free O (cell (length s) x) → Called rule s T k x y
        → Link (held_cells rule s (view mark O)) (view mark T) (cell (length s) x) (cell (length s) y)
    unfolding holding
    called_link w f (first_called {A} {B} {C} {D} {p} e) = link_first (free_kind (A at p) w f ∙ ap kind_of e) (sym (cell_first A p B C D w e))
    called_link w f (second_called {A} {B} {C} {D} {p} {t} e m) =
        link_second (free_kind (A at p) w f ∙ ap kind_of e) (settled_at short T (B at p) (cell_first A p B C D w e) m) (sym (cell_second A p B C D w e t))

    -- A result that is given fits the table.
    pub given_fits : {x : Pair} {r : Result} {far root : ℕ} {rest : List ℕ} → Bounded (held_cells rule s (view mark O)) (cells v (length s)) → PairWithin v (length s) x
        → Inv (held_cells rule s (view mark O)) (cells v (length s)) (view mark O) root (view mark T) (cell (length s) x ∷ rest) → Given rule s T x r far
        → Fits (held_cells rule s (view mark O)) (view mark T) (cell (length s) x) r
    unfolding holding
    given_fits {x} bounded w inv (by_leaf e) = leaf_fits (held_cells rule s (view mark O)) (free_kind x w (top_free O T (cell (length s) x) inv) ∙ ap kind_of e)
    given_fits bounded w inv (by_calls {A} {B} {C} {D} {p} {t} {r} e f g) =
        subst (Fits (held_cells rule s (view mark O)) (view mark T) (cell (length s) (A at p))) (cell_join A p B C D w e t r)
        (both_fits (held_cells rule s (view mark O)) (cells v (length s)) bounded inv (free_kind (A at p) w (top_free O T (cell (length s) (A at p)) inv) ∙ ap kind_of e)
        (settled_at short T (B at p) (cell_first A p B C D w e) f) (settled_at short T (second C D p t) (cell_second A p B C D w e t) g))
