-- Which pair calls which: halts come up from what is called, heights fall, and pairs that call one another in a round have no derivation. Assumes nothing.
use mathlib.Core.Bool.{true≢false}
use mathlib.Core.Path.{◌≡◌, refl, sym, ap, ◌∙◌, subst}
use mathlib.Core.Logic.{◌⊎◌, inl, inr}
use Prim.Native.Nat.{ℕ, ◌<◌}
use native.Mathlib.Omega.{arith}
use Rattle.calls.proofs.System.{System, calls, Done, leaf, node, Halt, stop, by_first, by_second, Loop}
use Rattle.calls.proofs.Determinism.{done_one, halt_not_done}

module _ {X A E : Type 0} (σ : System X A E) where
  open σ use {kind, first, second}

  -- x calls y: as its first pair, or as its second where the first is done.
  pub data Calls (x y : X) : Type 0 where
    to_first : kind x ≡ calls → y ≡ first x → Calls x y
    to_second : {a : A} {k h : ℕ} → kind x ≡ calls → Done σ (first x) a k h → y ≡ second x a → Calls x y

  calls_kind : {x y : X} → Calls x y → kind x ≡ calls
  calls_kind (to_first q r) = q
  calls_kind (to_second q d r) = q

  called : {x y : X} {a : A} {k h : ℕ} → Calls x y → Done σ (first x) a k h → (y ≡ first x) ⊎ (y ≡ second x a)
  called (to_first q r) d = inl r
  called {x = x} (to_second q c r) d = inr (r ∙ ap (second x) (done_one σ c d).0)

  called_halting : {x y : X} {e : E} → Calls x y → Halt σ e (first x) → y ≡ first x
  called_halting (to_first q r) i = r
  called_halting (to_second q c r) i = absurd (halt_not_done σ refl i c)

  -- The halt of what x calls is the halt of x.
  pub halt_up : {e : E} {x y : X} → Calls x y → Halt σ e y → Halt σ e x
  halt_up {e = e} (to_first q r) i = by_first q (subst (Halt σ e) r i)
  halt_up {e = e} (to_second q d r) i = by_second q d (subst (Halt σ e) r i)

  -- What a pair with a value calls has a value of less height.
  pub done_under : {x y : X} {a : A} {k h : ℕ} → Calls x y → Done σ x a k h → (b : A) × (l : ℕ) × (g : ℕ) × Done σ y b l g × (g < h)
  done_under c (leaf p) = let q = calls_kind c in absurd (true≢false (cc))
  done_under c (node {x = x} {a = a} {c = b} {k = k} {l = l} {g = g} {h = h} p d e) = elim (called c d) [
    | inl r ↦ (a, k, g, subst (λ (u : X). Done σ u a k g) (sym r) d, omega arith)
    | inr r ↦ (b, l, h, subst (λ (u : X). Done σ u b l h) (sym r) e, omega arith)
  ]

  -- A set of pairs, each of which calls one of the set: none of them has a derivation.
  module _ (L : X → Type 0) (next : (x : X) → L x → (y : X) × Calls x y × L y) where
    chain_not_done : {x : X} {a : A} {k h : ℕ} → Done σ x a k h → L x → ⊥
    chain_not_done {x = x} (leaf p) l = let q = calls_kind (next x l).1 in true≢false (cc)
    chain_not_done {x = x} (node p d e) l = elim (called (next x l).1 d) [
      | inl r ↦ chain_not_done d (subst L r (next x l).2)
      | inr r ↦ chain_not_done e (subst L r (next x l).2)
    ]

    chain_not_halt : {e : E} {x : X} → Halt σ e x → L x → ⊥
    chain_not_halt {x = x} (stop p) l = let q = calls_kind (next x l).1 in true≢false (cc)
    chain_not_halt {x = x} (by_first p i) l = chain_not_halt i (subst L (called_halting (next x l).1 i) (next x l).2)
    chain_not_halt {x = x} (by_second p d i) l = elim (called (next x l).1 d) [
      | inl r ↦ chain_not_done d (subst L r (next x l).2)
      | inr r ↦ chain_not_halt i (subst L r (next x l).2)
    ]

    -- They loop.
    pub chain_loops : {x : X} → L x → Loop σ x
    chain_loops l = record { not_done = λ a k h d. chain_not_done d l; not_halt = λ e i. chain_not_halt i l }
