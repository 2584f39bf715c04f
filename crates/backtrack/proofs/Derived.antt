-- A pair with a result: how many moves and frames its part of a run takes. Assumes nothing.
use mathlib.Core.List.{List, ◌∷◌}
use mathlib.Core.Path.{◌≡◌, refl}
use Prim.Native.Nat.{ℕ, ◌+◌, ◌*◌, ◌-◌, ◌<◌, ◌≤◌, max}
use native.Mathlib.Omega.{arith}
use lib.ListN.{length}
use Rattle.grammar.specs.Rule.{Rule}
use Rattle.schema.proofs.Ends.{position_of}
use Rattle.schema.specs.Derivation.{Pair, ◌at◌, Result, gives, calls, act, second, Derives, leaf, node}
use Rattle.schema.specs.Machine.{stage1, stage2, Frame, frame, popped, run}
use Rattle.backtrack.proofs.Part.{Part, bind, recast}
use Rattle.backtrack.proofs.Steps.{asked, leaf_popped, first_asked, second_asked, call_popped}

module _ (rule : ℕ → Rule) (input : List ℕ) where
  -- A derivation has at least one step, and is at least 1 high.
  pub positive : {x : Pair} {r : Result} {k h : ℕ} → Derives rule input x r k h → (1 ≤ k) × (1 ≤ h)
  positive (leaf e) = omega arith
  positive (node e d₁ d₂) = omega arith

  -- Asked over any stack, with any budget and room, the pair x has the result r by c moves and h frames.
  abbrev pub Takes : Pair → Result → ℕ → ℕ → Type 0
  Takes x r c h =
      (l room m : ℕ) (stack : List Frame) → length stack < room
      → Part l c room (h + length stack) m (run rule input l room (asked x m stack)) (λ left moves. run rule input left room (popped r (position_of x) moves stack))

  takes_leaf : (x : Pair) {r : Result} → act rule input x ≡ gives r → Takes x r 1 1
  takes_leaf x e l room m stack h = recast (leaf_popped rule input l room m stack x e) refl (λ x. omega arith) (λ x. omega arith)

  takes_call : (A p : ℕ) {B C D : ℕ} (t r : Result) (c₁ c₂ c g h : ℕ) → c₁ + c₂ + 3 ≡ c → act rule input (A at p) ≡ calls B C D → 1 ≤ g → 1 ≤ h
      → Takes (B at p) t c₁ g → Takes (second C D p t) r c₂ h → Takes (A at p) r c (max g h + 1)
  takes_call A p {C = C} {D = D} t r c₁ c₂ c g h moves e some₁ some₂ first then l room m stack fits =
      recast
      (bind (first_asked rule input l room m stack A p e) λ l₁ k₁.
      bind (first l₁ room (m + 1) (frame A p stage1 ∷ stack) k₁) λ l₂ k₂.
      bind (second_asked rule input l₂ room _ stack A p t e) λ l₃ k₃.
      bind (then l₃ room _ (frame A p stage2 ∷ stack) k₃) λ l₄ k₄.
      call_popped rule input l₄ room _ stack A p (position_of (second C D p t)) r)
      (omega arith) (λ x. omega arith) (λ x. omega arith)

  -- A derivation of k steps, h high, takes 2k - 1 moves and h frames.
  pub takes : {x : Pair} {r : Result} {k h : ℕ} → Derives rule input x r k h → Takes x r (2 * k - 1) h
  takes (leaf {x} e) = takes_leaf x e
  takes (node {A} {p = p} {r = r} {t = t} e d₁ d₂) =
      let some₁ = positive d₁ in
      let some₂ = positive d₂ in
      takes_call A p t r _ _ _ _ _ (omega arith) e some₁.1 some₂.1 (takes d₁) (takes d₂)
