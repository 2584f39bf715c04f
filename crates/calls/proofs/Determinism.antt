-- A pair has one value, one count of steps, one height, and one answer at most. Assumes nothing.
use mathlib.Core.Bool.{true≢false}
use mathlib.Core.Path.{◌≡◌, refl, sym, ap, ap₂}
use Prim.Native.Nat.{ℕ}
use Rattle.calls.proofs.System.{System, Answer, value, halts, loops, Done, leaf, node, Halt, stop, by_first, by_second, Means}

module _ {X A E : Type 0} (σ : System X A E) where
  open σ use {first, second}

  done_same : {x y : X} {a b : A} {k l g h : ℕ} → x ≡ y → Done σ x a k g → Done σ y b l h → (a ≡ b) × (k ≡ l) × (g ≡ h)
  done_same r (leaf p) (leaf q) = (cc, refl, refl)
  done_same r (leaf p) (node q d e) = absurd (true≢false (cc))
  done_same r (node p d e) (leaf q) = absurd (true≢false (cc))
  done_same r (node p d e) (node q d' e') =
      let i = done_same (ap first r) d d' in
      let j = done_same (ap₂ second r i.0) e e' in
      (cc, cc, cc)

  -- Two derivations of a pair have the same value, steps and height.
  pub done_one : {x : X} {a b : A} {k l g h : ℕ} → Done σ x a k g → Done σ x b l h → (a ≡ b) × (k ≡ l) × (g ≡ h)
  done_one d e = done_same refl d e

  -- The value of a pair, under an equation of pairs.
  pub value_same : {x y : X} {a b : A} {k l g h : ℕ} → x ≡ y → Done σ x a k g → Done σ y b l h → a ≡ b
  value_same r d e = (done_same r d e).0

  -- A halt and a value exclude one another.
  pub halt_not_done : {e : E} {x y : X} {a : A} {k h : ℕ} → x ≡ y → Halt σ e x → Done σ y a k h → ⊥
  halt_not_done r (stop p) (leaf q) = true≢false (cc)
  halt_not_done r (stop p) (node q d f) = true≢false (cc)
  halt_not_done r (by_first p i) (leaf q) = true≢false (cc)
  halt_not_done r (by_first p i) (node q d f) = halt_not_done (ap first r) i d
  halt_not_done r (by_second p c i) (leaf q) = true≢false (cc)
  halt_not_done r (by_second p c i) (node q d f) = halt_not_done (ap₂ second r (value_same (ap first r) c d)) i f

  halt_same : {e f : E} {x y : X} → x ≡ y → Halt σ e x → Halt σ f y → e ≡ f
  halt_same r (stop p) (stop q) = cc
  halt_same r (stop p) (by_first q i) = absurd (true≢false (cc))
  halt_same r (stop p) (by_second q c i) = absurd (true≢false (cc))
  halt_same r (by_first p i) (stop q) = absurd (true≢false (cc))
  halt_same r (by_first p i) (by_first q j) = halt_same (ap first r) i j
  halt_same r (by_first p i) (by_second q c j) = absurd (halt_not_done (ap first r) i c)
  halt_same r (by_second p c i) (stop q) = absurd (true≢false (cc))
  halt_same r (by_second p c i) (by_first q j) = absurd (halt_not_done (ap first (sym r)) j c)
  halt_same r (by_second p c i) (by_second q d j) = halt_same (ap₂ second r (value_same (ap first r) c d)) i j

  -- A pair has one answer at most.
  pub means_one : (x : X) (o p : Answer A E) → Means σ x o → Means σ x p → o ≡ p
  means_one x (value a) (value b) m n = ap value (done_one m.2 n.2).0
  means_one x (value a) (halts e) m n = absurd (halt_not_done refl n m.2)
  means_one x (value a) loops m n = absurd (n.not_done _ _ _ m.2)
  means_one x (halts e) (value b) m n = absurd (halt_not_done refl m n.2)
  means_one x (halts e) (halts f) m n = ap halts (halt_same refl m n)
  means_one x (halts e) loops m n = absurd (n.not_halt e m)
  means_one x loops (value b) m n = absurd (m.not_done _ _ _ n.2)
  means_one x loops (halts f) m n = absurd (m.not_halt f n)
  means_one x loops loops m n = refl
