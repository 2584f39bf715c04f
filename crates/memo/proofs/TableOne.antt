-- The table that a question leaves is one, whatever the cells hold at its start. Assumes nothing.
use mathlib.Core.Path.{◌≡◌, sym, ap, ap₂, ◌∙◌, subst}
use mathlib.Core.List.{List}
use mathlib.Core.Logic.{◌≢◌}
use Prim.Native.Nat.{ℕ, ◌*◌}
use native.Mathlib.Decide.{ℕ_discrete}
use lib.ListN.{length, drop}
use Rattle.grammar.specs.Rule.{Rule}
use Rattle.schema.specs.Derivation.{Pair, ◌at◌, Outcome}
use Rattle.schema.specs.Examined.{Reaches}
use Rattle.schema.specs.Reached.{Reached}
use Rattle.schema.specs.Table.{Within, cells, code, held, reach, Table}
use Rattle.schema.proofs.Examined.{reaches_one}
use Rattle.schema.proofs.Laws.{has_one}
use Rattle.schema.proofs.SameCells.{same_table}

-- Two numbers are the same if they are where one of them is not a third.
same_unless : {a b c : ℕ} → (a ≢ c → a ≡ b) → (b ≢ c → a ≡ b) → a ≡ b
same_unless {a} {b} {c} f g = elim (ℕ_discrete a c) [
  | yes e ↦ elim (ℕ_discrete b c) [
    | yes h ↦ e ∙ sym h
    | no d ↦ g d
  ]
  | no d ↦ f d
]

module _ {rule : ℕ → Rule} {s : List ℕ} {v : ℕ} {x : Pair} {start : Pair → ℕ × ℕ} {O P T U : List ℕ} (t : Table rule s v x start O T) (u : Table rule s v x start P U) where
  abbrev n : ℕ
  n = length s

  reached_same : (y : Pair) → Reached rule s x y → (held n T y ≡ held n U y) × (reach n T y ≡ reach n U y)
  reached_same y k =
      let a = t.holds y k in
      let b = u.holds y k in
      let o = has_one rule s y a.0 b.0 a.1 b.1 in (
        a.2 ∙ ap code o ∙ sym b.2,
        reaches_one rule s y b.0 (reach n T y) (reach n U y) (subst (λ (p : Outcome). Reaches rule s y p (reach n T y)) o a.3) b.3,
      )

  held_same : (A p : ℕ) → Within v n A p → held n T (A at p) ≡ held n U (A at p)
  held_same A p w = same_unless (λ d. (reached_same (A at p) (t.others A p w d)).0) (λ d. (reached_same (A at p) (u.others A p w d)).0)

  reach_same : (A p : ℕ) → Within v n A p → reach n T (A at p) ≡ reach n U (A at p)
  reach_same A p w = same_unless (λ d. (reached_same (A at p) (t.others_reach A p w d)).1) (λ d. (reached_same (A at p) (u.others_reach A p w d)).1)

  -- Two tables that a question leaves are equal where they are beyond its cells.
  pub table_one : drop (2 * cells v (length s)) T ≡ drop (2 * cells v (length s)) U → length T ≡ length U → T ≡ U
  table_one = same_table v (length s) T U (λ A p w. ap₂ (λ (a b : ℕ). (a, b)) (held_same A p w) (reach_same A p w))
