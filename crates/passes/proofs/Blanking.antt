-- The second pass: what does not stay is blanked, row by row. Assumes nothing.
use mathlib.Core.Bool.{Bool, true, false, cond, not, ◌||◌}
use mathlib.Core.List.{List}
use mathlib.Core.Logic.{inl, inr, ◌≢◌}
use mathlib.Core.Path.{◌≡◌, refl, sym, ap, ap₂, ◌∙◌, subst}
use Prim.Native.Nat.{ℕ, suc, ◌+◌, ◌*◌, ◌≤◌, ◌<◌}
use native.Mathlib.Decide.{ℕ_discrete}
use native.Mathlib.Omega.{arith}
use lib.Dec.{ltb}
use lib.ListN.{length, get_or, drop}
use lib.Seq.{drop-drop}
use borrow.Author.Tests.{ltb-true, ltb-false, lt-ltb}
use Rattle.schema.specs.Cells.{held_at, reach_at, cell_at, stored, HasCell}
use Rattle.schema.specs.Derivation.{◌at◌}
use Rattle.schema.specs.Table.{Within, cell, cells, contents}
use Rattle.schema.proofs.Cell.{cell_below}
use Rattle.schema.proofs.Cells.{stored_cell, cell_elsewhere, stored_later, stored_length, cell_later}
use Rattle.kept.specs.Kept.{looks_below, kept, retained}
use Rattle.passes.specs.Passes.{Unchanged, Firsts, Keeps, Starts}
use Rattle.passes.proofs.Rows.{next_row, row_cell}

-- Nothing changes before the first position.
pub keeps_first : {limit start first : ℕ} {T : List ℕ} → Unchanged limit T start first → Keeps limit start first T T
keeps_first u = record { keeps = λ p l. sym (u p l); others = λ i o. refl; later = λ N l. refl; size = refl }

-- The cell that is stored again.
abbrev pub stored_kept : ℕ → ℕ → List ℕ → List ℕ
stored_kept limit i T = stored T i (cond (looks_below limit (cell_at T i)) (held_at T i) 0) (cond (looks_below limit (cell_at T i)) (reach_at T i) 0)

pub stores_kept : (limit i : ℕ) (T : List ℕ) {T' : List ℕ} {o m a b : ℕ} → o ≡ held_at T i → m ≡ reach_at T i
    → (a ≡ cond (looks_below limit (o, m)) o 0) × (b ≡ cond (looks_below limit (o, m)) m 0) → T' ≡ stored T i a b → T' ≡ stored_kept limit i T
stores_kept limit i T p q k e =
    e ∙ ap₂ (stored T i) (k.0 ∙ ap₂ (λ (x y : ℕ). cond (looks_below limit (x, y)) x 0) p q) (k.1 ∙ ap₂ (λ (x y : ℕ). cond (looks_below limit (x, y)) y 0) p q)

cell_kept : (limit i : ℕ) (T : List ℕ) → HasCell T i → cell_at (stored_kept limit i T) i ≡ cond (looks_below limit (cell_at T i)) (cell_at T i) (0, 0)
cell_kept limit i T l =
    stored_cell T i (cond (looks_below limit (cell_at T i)) (held_at T i) 0) (cond (looks_below limit (cell_at T i)) (reach_at T i) 0) l ∙ go (looks_below limit (cell_at T i))
  where
    go : (b : Bool) → (cond b (held_at T i) 0, cond b (reach_at T i) 0) ≡ cond b (cell_at T i) (0, 0)
    go true = refl
    go false = refl

-- One cell more of a row, at a position below the limit.
pub keeps_more : {limit start p : ℕ} {T₀ T : List ℕ} → p < limit → HasCell T₀ (start + p) → Keeps limit start p T₀ T → {T' : List ℕ}
    → T' ≡ stored_kept limit (start + p) T → Keeps limit start (p + 1) T₀ T'
keeps_more {limit} {start} {p} {T₀} {T} l m k {T'} e = record {
  keeps = λ q f. elim (ℕ_discrete q p) [
    | yes z ↦ subst (λ (j : ℕ). cell_at T' (start + j) ≡ kept limit j (cell_at T₀ (start + j))) (sym z) here
    | no d ↦ other (start + q) (λ z. d (omega arith)) ∙ k.keeps q (omega arith)
  ];
  others = λ i o. elim o [
    | inl f ↦ other i (λ z. omega arith) ∙ k.others i (inl f)
    | inr f ↦ other i (λ z. omega arith) ∙ k.others i (inr (omega arith))
  ];
  later = λ N f. ap (drop (2 * N)) e ∙ stored_later N T (start + p) _ _ (omega arith) ∙ k.later N (omega arith);
  size = ap length e ∙ stored_length T (start + p) _ _ ∙ k.size;
}
  where
    other : (i : ℕ) → i ≢ start + p → cell_at T' i ≡ cell_at T i
    other i d = ap (λ (U : List ℕ). cell_at U i) e ∙ cell_elsewhere T (start + p) i _ _ d

    was : cell_at T (start + p) ≡ cell_at T₀ (start + p)
    was = k.others (start + p) (inr (omega arith))

    here : cell_at T' (start + p) ≡ kept limit p (cell_at T₀ (start + p))
    here =
        ap (λ (U : List ℕ). cell_at U (start + p)) e ∙ cell_kept limit (start + p) T (let z = k.size in omega arith) ∙ ap (λ (j : ℕ × ℕ). cond (looks_below limit j) j (0, 0)) was
        ∙ ap (λ (b : Bool). cond (not b || looks_below limit (cell_at T₀ (start + p))) (cell_at T₀ (start + p)) (0, 0)) (sym (lt-ltb p limit l))

-- No row is blanked yet.
pub retains_none : (n limit : ℕ) (T : List ℕ) → Starts 0 n (retained limit n T) T T
retains_none n limit T = record { holds = λ A p w. absurd (omega (arith, w.variable.0, w.variable.1)); later = refl; size = refl }

-- The cells from a row on are as they were.
row_rest : {row n : ℕ} (limit : ℕ) {T₀ T : List ℕ} → Starts row n (retained limit n T₀) T₀ T → (p : ℕ) → cell_at T (cells row n + p) ≡ cell_at T₀ (cells row n + p)
row_rest {row} {n} limit {T₀ = T₀} {T = T} before = cell_later (cells row n) T T₀ before.later

-- One row more.
module _ {row n limit : ℕ} {T₀ T T' : List ℕ} (inside : limit ≤ n) (before : Starts row n (retained limit n T₀) T₀ T) (keeps : Keeps limit (cells row n) (limit) T T') where
  abbrev start : ℕ
  start = cells row n

  rest : (p : ℕ) → cell_at T (start + p) ≡ cell_at T₀ (start + p)
  rest = row_rest limit before

  this_row : (p : ℕ) → contents n T' (suc row at p) ≡ retained limit n T₀ (suc row at p)
  this_row p = ap (λ (i : ℕ). cell_at T' i) (row_cell row n p) ∙ by_test (ltb p limit) refl ∙ ap (λ (i : ℕ). kept limit p (cell_at T₀ i)) (sym (row_cell row n p))
    where
      by_test : (b : Bool) → ltb p limit ≡ b → cell_at T' (start + p) ≡ kept limit p (cell_at T₀ (start + p))
      by_test true h = keeps.keeps p (ltb-true p limit h) ∙ ap (kept limit p) (rest p)
      by_test false h = let l = ltb-false p limit h in rw h (keeps.others (start + p) (inr (omega arith)) ∙ rest p)

  earlier_row : (A p : ℕ) → Within row n A p → contents n T' (A at p) ≡ retained limit n T₀ (A at p)
  earlier_row A p w = keeps.others (cell n (A at p)) (inl (cell_below row n (A at p) w)) ∙ before.holds A p w

  pub retains_more : Starts (row + 1) n (retained limit n T₀) T₀ T'
  retains_more = record {
    holds = λ A p w. elim (ℕ_discrete A (suc row)) [
      | yes e ↦ rw e (this_row p)
      | no d ↦ earlier_row A p (record { variable = (w.variable.0, omega (arith, w.variable.1)); position = w.position })
    ];
    later =
        let e : 2 * cells (row + 1) n ≡ 2 * start + 2 * (n + 1) = let k = next_row row n in omega arith in
        let f : 2 * (start + (n + 1)) ≡ 2 * start + 2 * (n + 1) = omega arith in
        ap (λ (N : ℕ). drop N T') (e ∙ sym f) ∙ keeps.later (start + (n + 1)) (omega arith) ∙ ap (λ (N : ℕ). drop N T) f ∙ sym (drop-drop (2 * (n + 1)) (2 * start) T)
        ∙ ap (drop (2 * (n + 1))) before.later ∙ drop-drop (2 * (n + 1)) (2 * start) T₀ ∙ ap (λ (N : ℕ). drop N T₀) (sym e);
    size = keeps.size ∙ before.size;
  }

-- What was found of a row before the passes is so of the table now.
pub row_unchanged : {v n limit row : ℕ} {T₀ T firsts : List ℕ} → row < v → Starts row n (retained limit n T₀) T₀ T → Firsts v n limit T₀ firsts
    → (get_or firsts row 0 ≤ limit) × Unchanged limit T (cells row n) (get_or firsts row 0)
row_unchanged {limit = limit} {row = row} l b f = (
  f.low row l,
  λ p m. ap (kept limit p) (row_rest limit b p) ∙ f.unchanged row l p m ∙ sym (row_rest limit b p),
)
