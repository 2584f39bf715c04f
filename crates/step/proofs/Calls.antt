-- The second call of a pair, by the cell of the first, and the first's cell read again. Assumes nothing.
use mathlib.Core.Path.{◌≡◌, sym, ap, ◌∙◌, subst}
use mathlib.Core.List.{List}
use mathlib.Core.Logic.{◌≢◌}
use Prim.Native.Nat.{ℕ, ◌-◌, max}
use borrow.Author.Tests.{eq-eqb, ne_eqb}
use Rattle.grammar.specs.Rule.{call}
use Rattle.grammar.specs.Words.{rule_in, first_in}
use Rattle.rules.proofs.RuleWords.{first_in_law}
use Rattle.schema.specs.Cells.{reach_at, stored, HasCell}
use Rattle.schema.specs.Derivation.{◌at◌, second}
use Rattle.schema.specs.Table.{cell}
use Rattle.cells.specs.declared.Cell.{Cell}
use Rattle.step.specs.Codes.{result_of}
use Rattle.step.specs.Step.{top_of, SettleReady, SettlesTop}
use Rattle.step.specs.declared.State.{State}

-- The second call after a failure,
pub after_failure : (C D p c r : ℕ) → c ≡ 1 → r ≡ D → r at p ≡ second C D p (result_of c)
after_failure C D p c r e h = rw (eq-eqb c 1 e, h)

-- and after a success.
pub after_success : (C D p c r : ℕ) → c ≢ 1 → r ≡ C → r at (c - 5) ≡ second C D p (result_of c)
after_success C D p c r d h = rw (ne_eqb c 1 d, h)

-- ---- The pair that the latest open pair calls first, when this is settled.

module _ (ws : List ℕ) {n : ℕ} {T W : List ℕ} {x : State} (r : SettleReady (rule_in ws) n T W x) {b i : ℕ} (e : b ≡ first_in ws x.variable) (f : i ≡ cell n (b at x.position)) where
  called_first : (B C D : ℕ) → rule_in ws x.variable ≡ call B C D → i ≡ cell n (B at x.position)
  called_first B C D h = f ∙ ap (λ (X : ℕ). cell n (X at x.position)) (e ∙ first_in_law ws x.variable B C D h)

  -- It has a cell,
  pub first_has : HasCell T i
  first_has = subst (HasCell T) (sym (called_first r.B r.C r.D r.rule_is)) r.first_cell

  -- and its reach is joined.
  pub settles_top : {T' : List ℕ} {j m : ℕ} (c d : Cell) → m ≡ reach_at T i → (d.0 ≡ c.0) × (d.1 ≡ max m c.1) → j ≡ cell n (top_of x) → T' ≡ stored T j d.0 d.1
      → SettlesTop (rule_in ws) n T T' x c
  settles_top {j = j} c d k q u t = (
    d.1,
    t ∙ ap (λ (y : ℕ). stored T y d.0 d.1) u ∙ ap (λ (o : ℕ). stored T (cell n (top_of x)) o d.1) q.0,
    λ B C D h. q.1 ∙ ap (λ (y : ℕ). max y c.1) (k ∙ ap (λ (y : ℕ). reach_at T y) (called_first B C D h)),
  )
