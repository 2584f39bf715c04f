-- A certificate whose lines follow proves what each line says. Assumes nothing.
use mathlib.Core.List.{List}
use mathlib.Core.Logic.{inl, inr}
use mathlib.Core.Path.{◌≡◌, sym, ◌∙◌, subst}
use Prim.Native.Nat.{ℕ, ◌+◌, max}
use Rattle.grammar.specs.Sheet.{Grammar}
use Rattle.schema.specs.Derivation.{Pair, ◌at◌, Result, leaf, node, result, Has}
use Rattle.schema.proofs.Lines.{line_one_law, stands_none, stands_either}
use Rattle.schema.specs.Line.{Line, line_of, Stands, Follows, by_leaf, by_call}
use Rattle.checker.specs.Proper.{EachFollows, no_line, one_more}

module _ (g : Grammar) (input : List ℕ) where
  abbrev Derived : Pair → Result → Type 0
  Derived x r = Has g.rule input x (result r)

  follows_derived : (earlier : List Line) → ((n : ℕ) (y : Pair) (t : Result) → Stands earlier n y t → Derived y t)
      → (l : Line) → Follows g.rule g.variables input earlier l → (x : Pair) (r : Result) (i j : ℕ) → l ≡ line_of x r i j → Derived x r
  follows_derived earlier before l (by_leaf {A} {p} {r = t} w e q) x r i j h =
      let o = line_one_law (A at p) x t r 0 0 i j (sym q ∙ h) in
      subst (λ (y : Pair). Derived y r) o.0 (subst (λ (u : Result). Derived (A at p) u) o.1 (1, 1, leaf e))
  follows_derived earlier before l (by_call {A} {B} {C} {D} {p} {i = m} {j = n} {r = t} {t = u} w e a b q) x r i j h =
      let o = line_one_law (A at p) x t r m n i j (sym q ∙ h) in
      let d = before m (B at p) u a in
      let f = before n _ t b in
      subst (λ (y : Pair). Derived y r) o.0
      (subst (λ (z : Result). Derived (A at p) z) o.1 (d.0 + f.0 + 1, max d.1 f.1 + 1, node e d.2 f.2))

  -- Each line of a certificate whose lines follow has a derivation.
  pub each_derived : {ls : List Line} → EachFollows g input ls → (n : ℕ) (x : Pair) (r : Result) → Stands ls n x r → Has g.rule input x (result r)
  each_derived no_line n x r t = absurd (stands_none t)
  each_derived (one_more {earlier} {l} each f) n x r t = elim (stands_either earlier l t) [
    | inl y ↦ each_derived each n x r y
    | inr y ↦ follows_derived earlier (λ m z u k. each_derived each m z u k) l f x r y.1 y.2 y.3
  ]
