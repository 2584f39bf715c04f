-- The numbers that refusal 19 lets pass, and that those of a kept table are among them. Assumes nothing.
use mathlib.Core.Bool.{Bool, true, false, not, ◌&&◌, ◌||◌}
use mathlib.Core.List.{List}
use mathlib.Core.Logic.{◌≢◌}
use mathlib.Core.Path.{◌≡◌, refl, ap, ◌∙◌}
use Prim.Native.Nat.{ℕ, zero, suc, ◌+◌, ◌≤◌, ◌<◌}
use native.Mathlib.Decide.{ℕ_discrete}
use native.Mathlib.Omega.{arith}
use lib.Dec.{eqb, ltb}
use lib.ListN.{length}
use borrow.Author.Tests.{eqb-false, ne_eqb, ltb-false, lt-ltb, le-ltb}
use Rattle.grammar.specs.Rule.{Rule}
use Rattle.grammar.proofs.Fitting.{neither_true}
use Rattle.schema.specs.Closed.{Closed}
use Rattle.schema.specs.Derivation.{Pair, ◌at◌, success, failure, missing, Outcome, result, stopped, loop, Has}
use Rattle.schema.specs.Examined.{Reaches}
use Rattle.schema.specs.Table.{Within, code, held, contents}
use Rattle.schema.proofs.Ends.{derives_ends}
use Rattle.schema.proofs.Examined.{reach_bounds}
use Rattle.kept.specs.Kept.{is_result, retained, KeptTable}
use Rattle.kept.specs.Range.{out_of_range, cells_out}
use Rattle.kept.specs.Some.{some}
use Rattle.kept.proofs.RightCells.{RightCells, kept_right}
use Rattle.kept.proofs.Some.{some_none, some_each, some_same}

-- ---- Numbers in range.

-- What passes is at most 5 + n, and is not 4;
range_parts : (n p : ℕ) (k : ℕ × ℕ) → out_of_range n p k ≡ false → (k.0 ≤ 5 + n) × (k.0 ≢ 4)
range_parts n p k e =
    let left = not (ltb k.0 5) && ltb k.0 (5 + p) in
    let a = (neither_true ((ltb (5 + n) k.0 || left) || eqb k.0 4) (is_result k.0 && ltb k.1 p) e).0 in
    let b = neither_true (ltb (5 + n) k.0 || left) (eqb k.0 4) a in
    (ltb-false (5 + n) k.0 (neither_true (ltb (5 + n) k.0) left b.0).0, eqb-false k.0 4 b.1)

pub range_most : (n p : ℕ) (k : ℕ × ℕ) → out_of_range n p k ≡ false → k.0 ≤ 5 + n
range_most n p k e = (range_parts n p k e).0

-- a number below 4 that is no result's passes,
pub range_low : (n p o m : ℕ) → o < 4 → o ≢ 1 → out_of_range n p (o, m) ≡ false
range_low n p o m l d = rw (le-ltb (5 + n) o (omega arith), ne_eqb o 4 (λ e. omega arith), lt-ltb o 5 (omega arith), ne_eqb o 1 d)

-- failure passes with a reach that is not left of the position,
range_failure : (n p m : ℕ) → p ≤ m → out_of_range n p (1, m) ≡ false
range_failure n p m l = rw (le-ltb (5 + n) 1 (omega arith), le-ltb m p l)

-- and success with an end too.
range_success : (n p q m : ℕ) → p ≤ q → q ≤ n → p ≤ m → out_of_range n p (5 + q, m) ≡ false
range_success n p q m l h r =
    rw (le-ltb (5 + n) (5 + q) (omega arith), ne_eqb (5 + q) 4 (λ e. omega arith), le-ltb (5 + q) 5 (omega arith), le-ltb (5 + q) (5 + p) (omega arith), le-ltb m p r) (by_test (eqb (5 + q) 1))
  where
    by_test : (b : Bool) → ((b || true) && false) ≡ false
    by_test true = refl
    by_test false = refl

-- ---- The cells that a call starts from.

module _ (v n : ℕ) (start : Pair → ℕ × ℕ) where
  -- No cell is out of range exactly if refusal 19 does not hold.
  pub none_out : ((A p : ℕ) → Within v n A p → out_of_range n p (start (A at p)) ≡ false) → cells_out v n start ≡ false
  unfolding cells_out
  none_out each =
      some_none v (λ i. some (n + 1) (λ p. out_of_range n p (start (suc i at p))))
      (λ i l. some_none (n + 1) (λ p. out_of_range n p (start (suc i at p)))
      (λ p m. each (suc i) p (record { variable = (omega arith, omega arith); position = omega arith })))

  pub each_in : cells_out v n start ≡ false → (A p : ℕ) → Within v n A p → out_of_range n p (start (A at p)) ≡ false
  unfolding cells_out
  each_in e zero p w = absurd (omega (arith, w.variable.0))
  each_in e (suc i) p w =
      some_each (n + 1) (λ p. out_of_range n p (start (suc i at p)))
      (some_each v (λ i. some (n + 1) (λ p. out_of_range n p (start (suc i at p)))) e i (omega (arith, w.variable.1))) p (omega (arith, w.position))

  -- Order 11: "a retained 4 comes under 19".
  pub four_out : (A p : ℕ) → Within v n A p → (start (A at p)).0 ≡ 4 → cells_out v n start ≡ true
  four_out A p w e = by_test (cells_out v n start) refl
    where
      by_test : (b : Bool) → cells_out v n start ≡ b → cells_out v n start ≡ true
      by_test true h = h
      by_test false h = absurd ((range_parts n p (start (A at p)) (each_in h A p w)).1 e)

-- Cells that hold the same are out of range alike.
pub out_same : (v n : ℕ) (start other : Pair → ℕ × ℕ) → ((y : Pair) → start y ≡ other y) → cells_out v n start ≡ cells_out v n other
unfolding cells_out
out_same v n start other same =
    some_same v (λ i. some (n + 1) (λ p. out_of_range n p (start (suc i at p)))) (λ i. some (n + 1) (λ p. out_of_range n p (other (suc i at p))))
    (λ i. some_same (n + 1) (λ p. out_of_range n p (start (suc i at p))) (λ p. out_of_range n p (other (suc i at p))) (λ p. ap (out_of_range n p) (same (suc i at p))))

-- Where nothing is blanked, all is retained.
pub all_out : (v n : ℕ) (T : List ℕ) → cells_out v n (retained 0 n T) ≡ cells_out v n (contents n T)
all_out v n T = out_same v n (retained 0 n T) (contents n T) all
  where
    all : (y : Pair) → retained 0 n T y ≡ contents n T y
    all (A at p) = rw (le-ltb p 0 (omega arith))

-- A right cell is in range.
module _ (rule : ℕ → Rule) (v : ℕ) (s : List ℕ) where
  outcome_in_law : (A p m : ℕ) (o : Outcome) → p ≤ length s → Has rule s (A at p) o → Reaches rule s (A at p) o m → out_of_range (length s) p (code o, m) ≡ false
  outcome_in_law A p m (result (success q)) l h r =
      let e = derives_ends rule s {x = A at p} l h.2 in
      range_success (length s) p q m e.0 e.1 (reach_bounds rule s {x = A at p} l r).0
  outcome_in_law A p m (result failure) l h r = range_failure (length s) p m (reach_bounds rule s {x = A at p} l r).0
  outcome_in_law A p m (stopped missing) l h r = range_low (length s) p 3 m (omega arith) (λ e. omega arith)
  outcome_in_law A p m loop l h r = range_low (length s) p 2 m (omega arith) (λ e. omega arith)

  pub right_in : {H : Pair → ℕ × ℕ} → RightCells rule v s H → (A p : ℕ) → Within v (length s) A p → out_of_range (length s) p (H (A at p)) ≡ false
  right_in {H} h A p w = elim (ℕ_discrete (H (A at p)).0 0) [
    | yes e ↦ range_low (length s) p (H (A at p)).0 (H (A at p)).1 (omega arith) (λ z. omega arith)
    | no d ↦
        let k = h.right A p w d in
        ap (λ (o : ℕ). out_of_range (length s) p (o, (H (A at p)).1)) k.2 ∙ outcome_in_law A p (H (A at p)).1 k.0 w.position k.1 k.3
  ]

  pub none_right : {H : Pair → ℕ × ℕ} → RightCells rule v s H → cells_out v (length s) H ≡ false
  none_right {H} h = none_out v (length s) H (right_in h)

  -- Order 11: "cell value 4 no longer" occurs: none stands in a kept table.
  pub no_four : Closed v rule → {T : List ℕ} → KeptTable rule v s T → (A p : ℕ) → Within v (length s) A p → held (length s) T (A at p) ≢ 4
  no_four closed {T} k A p w =
      let r = right_in {H = contents (length s) T} (kept_right rule v closed k) A p w in
      (range_parts (length s) p (contents (length s) T (A at p)) r).1
