-- Following the waiting from a question: it comes to one pair, with one answer, and that is the question's. Assumes nothing.
use mathlib.Core.Bool.{true≢false}
use mathlib.Core.Path.{◌≡◌, refl, sym, ap, ap₂, ◌∙◌, subst}
use mathlib.Core.Logic.{◌⊎◌, inl, inr}
use mathlib.Core.List.Memᴰ
use mathlib.Core.List.{List, [], ◌∷◌, Memᴰ}
use Prim.Native.Nat.{ℕ}
use Rattle.calls.proofs.System.{System, stuck, calls, Answer, value, halts, loops, Done, NotDone, Halt, stop, Loop}
use Rattle.calls.proofs.Determinism.{value_same}
use Rattle.calls.proofs.Chain.{Calls, to_first, to_second, halt_up, chain_loops}

-- x is one of the list: a type by cases, so that a proof matches on `inl` and `inr`.
abbrev pub In : {X : Type 0} → X → List X → Type 0
In x [] = ⊥
In x (y ∷ s) = (x ≡ y) ⊎ In x s

-- It is the library's membership.
pub mem_in : {X : Type 0} (x : X) (s : List X) → Memᴰ x s → In x s
mem_in x [] m = Memᴰ.not-nil m
mem_in x (y ∷ s) m = elim (Memᴰ.cases_cons m) [ inl e ↦ inl e | inr k ↦ inr (mem_in x s k) ]

pub in_mem : {X : Type 0} (x : X) (s : List X) → In x s → Memᴰ x s
in_mem x [] i = absurd i
in_mem x (y ∷ s) (inl e) = Memᴰ.head e
in_mem x (y ∷ s) (inr i) = Memᴰ.tail (in_mem x s i)

module _ {X A E : Type 0} (σ : System X A E) where
  open σ use {kind, first, second}

  -- x waits for y: for its first pair, or, the first having a value, for its second.
  pub data Waits (x y : X) : Type 0 where
    for_first : kind x ≡ calls → NotDone σ (first x) → y ≡ first x → Waits x y
    for_second : {a : A} {k h : ℕ} → kind x ≡ calls → Done σ (first x) a k h → y ≡ second x a → Waits x y

  -- Follow met x o z: from x, the pairs met before it, the waiting comes to z: a pair met a second time, or one that is stuck.
  pub data Follow : List X → X → Answer A E → X → Type 0 where
    again : {met : List X} {x : X} → In x met → Follow met x loops x
    stops : {met : List X} {x : X} {e : E} → ¬ In x met → kind x ≡ stuck e → Follow met x (halts e) x
    onward : {met : List X} {x y z : X} {o : Answer A E} → ¬ In x met → Waits x y → Follow (x ∷ met) y o z → Follow met x o z

  -- The pair that an answer names: a value names none.
  abbrev pub Named : Answer A E → X → X → Type 0
  Named (value a) root z = Unit {0}
  Named (halts e) root z = Follow [] root (halts e) z
  Named loops root z = Follow [] root loops z

  waits_same : {x x' y y' : X} → x ≡ x' → Waits x y → Waits x' y' → y ≡ y'
  waits_same r (for_first p n s) (for_first q n' s') = cc
  waits_same r (for_first p n s) (for_second {a = a} {k = k} {h = h} q d s') = absurd (n a k h (subst (λ (u : X). Done σ (first u) a k h) (sym r) d))
  waits_same r (for_second {a = a} {k = k} {h = h} p d s) (for_first q n s') = absurd (n a k h (subst (λ (u : X). Done σ (first u) a k h) r d))
  waits_same r (for_second p d s) (for_second q d' s') = s ∙ ap₂ second r (value_same σ (ap first r) d d') ∙ sym s'

  in_same : (x y : X) (s t : List X) → x ≡ y → s ≡ t → In x s → In y t
  in_same x y s t p q i = subst (λ (u : List X). In y u) q (subst (λ (u : X). In u s) p i)

  waits_calls : {x y : X} → Waits x y → Calls σ x y
  waits_calls (for_first q n r) = to_first q r
  waits_calls (for_second q d r) = to_second q d r

  waits_not_stuck : {x y : X} {e : E} → Waits x y → kind x ≡ stuck e → ⊥
  waits_not_stuck (for_first q n r) p = true≢false (cc)
  waits_not_stuck (for_second q d r) p = true≢false (cc)

  follow_same : {s t : List X} {x y : X} {o p : Answer A E} {z w : X} → s ≡ t → x ≡ y → Follow s x o z → Follow t y p w → (o ≡ p) × (z ≡ w)
  follow_same q r (again i) (again j) = (refl, r)
  follow_same {s = s} {t = t} {x = x} {y = y} q r (again i) (stops n k) = absurd (n (in_same x y s t r q i))
  follow_same {s = s} {t = t} {x = x} {y = y} q r (again i) (onward n v f) = absurd (n (in_same x y s t r q i))
  follow_same {s = s} {t = t} {x = x} {y = y} q r (stops n k) (again j) = absurd (n (in_same y x t s (sym r) (sym q) j))
  follow_same q r (stops n k) (stops m l) = (cc, r)
  follow_same q r (stops n k) (onward m v f) = absurd (waits_not_stuck v (ap kind (sym r) ∙ k))
  follow_same {s = s} {t = t} {x = x} {y = y} q r (onward n u f) (again j) = absurd (n (in_same y x t s (sym r) (sym q) j))
  follow_same q r (onward n u f) (stops m l) = absurd (waits_not_stuck u (ap kind r ∙ l))
  follow_same q r (onward n u f) (onward m v g) = follow_same (ap₂ ◌∷◌ r q) (waits_same r u v) f g

  -- From a pair, the waiting comes to one pair with one answer.
  pub follow_one : {x : X} {o p : Answer A E} {z w : X} → Follow [] x o z → Follow [] x p w → (o ≡ p) × (z ≡ w)
  follow_one f g = follow_same refl refl f g

  -- Where it comes to a stuck pair, the question halts.
  pub follow_halts : {s : List X} {x z : X} {e : E} → Follow s x (halts e) z → Halt σ e x
  follow_halts (stops n k) = stop k
  follow_halts (onward n v f) = halt_up σ (waits_calls v) (follow_halts f)

  -- Every pair met, and x, calls x or a pair met.
  follow_round : {s : List X} {x z : X} → Follow s x loops z → ((w : X) → In w s → (v : X) × Calls σ w v × ((v ≡ x) ⊎ In v s)) → (w : X)
      → (w ≡ x) ⊎ In w s → Loop σ w
  follow_round {s = s} {x = x} (again i) c w j = chain_loops σ (λ u. In u s) (λ u k. let v = c u k in (v.0, v.1, back v.0 v.2)) (back w j)
    where
      back : (v : X) → (v ≡ x) ⊎ In v s → In v s
      back v (inl r) = subst (λ (u : X). In u s) (sym r) i
      back v (inr k) = k
  follow_round {s = s} {x = x} (onward {y = y} n v f) c w j = follow_round f next w (inr j)
    where
      next : (u : X) → In u (x ∷ s) → (t : X) × Calls σ u t × ((t ≡ y) ⊎ In t (x ∷ s))
      next u (inl r) = (y, subst (λ (t : X). Calls σ t y) (sym r) (waits_calls v), inl refl)
      next u (inr k) = let t = c u k in (t.0, t.1, inr t.2)

  -- Where it comes to a pair met a second time, the question loops.
  pub follow_loops : {x z : X} → Follow [] x loops z → Loop σ x
  follow_loops {x = x} f = follow_round f (λ w i. absurd i) x (inl refl)
