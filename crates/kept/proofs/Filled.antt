-- The cells that are not blank after a question over a table, and those that it newly decides. Assumes nothing.
use mathlib.Core.List.{List}
use mathlib.Core.Logic.{◌⊎◌, inl, inr, ◌≢◌, ◌↔◌}
use mathlib.Core.Path.{◌≡◌, sym, ◌∙◌, subst}
use Prim.Native.Nat.{ℕ, zero, suc, ◌+◌, ◌≤◌, ◌<◌}
use native.Mathlib.Decide.{ℕ_discrete}
use lib.ListN.{length}
use Rattle.calls.proofs.Count.{Count, none, hit, miss, count_map, count_le, count_both}
use Rattle.grammar.specs.Rule.{Rule}
use Rattle.schema.specs.Closed.{Closed}
use Rattle.schema.specs.Derivation.{Pair, ◌at◌}
use Rattle.schema.specs.Reached.{Reached, Number}
use Rattle.schema.specs.Table.{Within, cells, held, Table}
use Rattle.schema.proofs.Answer.{reached_cell}
use Rattle.schema.proofs.Cell.{pair_of, PairWithin, pair_within}
use Rattle.schema.proofs.Codes.{code_full}
use Rattle.schema.proofs.Counted.{number_cells}
use Rattle.schema.proofs.Laws.{number_one}
use Rattle.kept.specs.New.{New}

-- What can be decided can be counted.
counted : (P : ℕ → Type 0) → ((i : ℕ) → Dec (P i)) → (n : ℕ) → (c : ℕ) × Count P n c
counted P d zero = (0, none)
counted P d (suc n) = let r = counted P d n in elim (d n) [
  | yes p ↦ (suc r.0, hit p r.1)
  | no q ↦ (r.0, miss q r.1)
]

module _ (rule : ℕ → Rule) (s : List ℕ) (v : ℕ) {x : Pair} {start : Pair → ℕ × ℕ} {O T : List ℕ} (leaves : Table rule s v x start O T) where
  abbrev n : ℕ
  n = length s

  reached_full : (y : Pair) → Reached rule s x y → held n T y ≢ 0
  reached_full y r z = let k = leaves.holds y r in code_full k.0 (sym k.2 ∙ z)

  -- A cell is not blank exactly if it was not in the start or its pair is reached.
  pub filled : (A p : ℕ) → Within v (length s) A p → (held (length s) T (A at p) ≢ 0) ↔ (((start (A at p)).0 ≢ 0) ⊎ Reached rule s x (A at p))
  filled A p w = (there, back)
    where
      there : held n T (A at p) ≢ 0 → ((start (A at p)).0 ≢ 0) ⊎ Reached rule s x (A at p)
      there m = elim (ℕ_discrete (held n T (A at p)) (start (A at p)).0) [
        | yes e ↦ inl (λ z. m (e ∙ z))
        | no d ↦ inr (leaves.others A p w d)
      ]

      back : ((start (A at p)).0 ≢ 0) ⊎ Reached rule s x (A at p) → held n T (A at p) ≢ 0
      back (inl m) = elim (ℕ_discrete (held n T (A at p)) (start (A at p)).0) [
        | yes e ↦ λ z. m (sym e ∙ z)
        | no d ↦ reached_full (A at p) (leaves.others A p w d)
      ]
      back (inr r) = reached_full (A at p) r

  -- ---- By the numbers of the cells.

  abbrev Was : ℕ → Type 0
  Was i = (start (pair_of (length s) i)).0 ≢ 0

  abbrev Is : ℕ → Type 0
  Is i = held (length s) T (pair_of (length s) i) ≢ 0

  -- A new pair's cell was blank and is not.
  new_blank : (i : ℕ) → i < cells v n → New rule s x start (pair_of n i) → (¬ Was i) × Is i
  new_blank i l h = (λ m. m h.1, (filled _ _ (pair_within v n i l)).1 (inr h.0))

  new_iff : (i : ℕ) → i < cells v n → ((¬ Was i) × Is i) ↔ New rule s x start (pair_of n i)
  new_iff i l = (
    λ h. elim ((filled _ _ (pair_within v n i l)).0 h.1) [
      | inl m ↦ absurd (h.0 m)
      | inr r ↦ elim (ℕ_discrete (start (pair_of n i)).0 0) [
        | yes e ↦ (r, e)
        | no d ↦ absurd (h.0 d)
      ]
    ],
    new_blank i l,
  )

  either_iff : (i : ℕ) → i < cells v n → (Was i ⊎ Is i) ↔ Is i
  either_iff i l = (
    λ h. elim h [
      | inl m ↦ (filled _ _ (pair_within v n i l)).1 (inl m)
      | inr m ↦ m
    ],
    λ m. inr m,
  )

  decide : (i : ℕ) → Dec ((¬ Was i) × Is i)
  decide i = elim (ℕ_discrete (start (pair_of n i)).0 0) [
    | yes e ↦ elim (ℕ_discrete (held n T (pair_of n i)) 0) [
      | yes f ↦ no (λ h. h.1 f)
      | no d ↦ yes (λ m. m e, d)
    ]
    | no d ↦ no (λ h. h.0 d)
  ]

  new : (c : ℕ) × Count (λ i. (¬ Was i) × Is i) (cells v n) c
  new = counted (λ i. (¬ Was i) × Is i) decide (cells v n)

  module _ (closed : Closed v rule) (within : PairWithin v (length s) x) where
    new_number : Number (New rule s x start) new.0
    new_number = number_cells v n (New rule s x start) (λ y h. (reached_cell rule s v closed x within h.0).0) (count_map new_iff new.1)

    -- So many cells were not blank, and so many are new: together so many are not blank.
    pub new_more : {b : ℕ} → Count (λ i. (start (pair_of (length s) i)).0 ≢ 0) (cells v (length s)) b
        → (c : ℕ) × Number (New rule s x start) c × Count (λ i. held (length s) T (pair_of (length s) i) ≢ 0) (cells v (length s)) (b + c)
    new_more was = (new.0, new_number, count_map either_iff (count_both was new.1))

    -- No more are new than there are cells.
    pub new_most : {c : ℕ} → Number (New rule s x start) c → c ≤ cells v (length s)
    new_most m = subst (λ (k : ℕ). k ≤ cells v n) (sym (number_one m new_number)) (count_le new.1)

    -- Over a blank table all that are reached are new.
    pub new_all : ((A p : ℕ) → Within v (length s) A p → (start (A at p)).0 ≡ 0) → {c : ℕ} → Number (New rule s x start) c → Number (Reached rule s x) c
    new_all empty m = record {
      pairs = m.pairs;
      distinct = m.distinct;
      exactly = λ y. (λ h. ((m.exactly y).0 h).0, λ r. (m.exactly y).1 (r, blank_at y (reached_cell rule s v closed x within r).0));
      counted = m.counted;
    }
      where
        blank_at : (y : Pair) → PairWithin v (length s) y → (start y).0 ≡ 0
        blank_at (A at p) w = empty A p w
