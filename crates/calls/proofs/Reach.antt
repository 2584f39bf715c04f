-- The pairs that a question reaches. Assumes nothing.
use mathlib.Core.Path.{◌≡◌, sym, subst}
use Prim.Native.Nat.{ℕ}
use Rattle.calls.proofs.System.{System, calls, Done}
use Rattle.calls.proofs.Chain.{Calls, to_first, to_second}

module _ {X A E : Type 0} (σ : System X A E) where
  open σ use {kind, first, second}

  -- A pair reaches itself, and what a reached pair calls.
  pub data Reach (root : X) : X → Type 0 where
    itself : Reach root root
    reach_first : {x : X} → Reach root x → kind x ≡ calls → Reach root (first x)
    reach_second : {x : X} {a : A} {k h : ℕ} → Reach root x → kind x ≡ calls → Done σ (first x) a k h → Reach root (second x a)

  -- What a reached pair calls is reached.
  pub reach_on : {root x y : X} → Reach root x → Calls σ x y → Reach root y
  reach_on {root = root} s (to_first q r) = subst (Reach root) (sym r) (reach_first s q)
  reach_on {root = root} s (to_second q d r) = subst (Reach root) (sym r) (reach_second s q d)
