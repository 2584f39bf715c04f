-- The trail of open pairs, each called by the one under it; and values that fit a table. Assumes nothing.
use mathlib.Core.Bool.{true≢false}
use mathlib.Core.Path.{◌≡◌, refl, sym, ap, ◌∙◌, subst}
use mathlib.Core.Logic.{inl, inr, ◌≢◌}
use mathlib.Core.List.{List, [], ◌∷◌}
use Prim.Native.Nat.{ℕ}
use Rattle.calls.proofs.System.{System, gives, calls, value, leaf, Means}
use Rattle.calls.proofs.Follow.{In}
use Rattle.calls.proofs.Table.{Mark, settled, Put, put_cases}

-- U holds whatever T has settled.
abbrev pub Grows : {A : Type 0} → (ℕ → Mark A) → (ℕ → Mark A) → Type 0
Grows {A} T U = (z : ℕ) (a : A) → T z ≡ settled a → U z ≡ settled a

-- A mark put where nothing is settled keeps what is settled.
pub grows_put : {A : Type 0} {T U : ℕ → Mark A} {x : ℕ} {m : Mark A} → ((a : A) → T x ≢ settled a) → Put T x m U → Grows T U
grows_put {T = T} n p z a h = elim (put_cases p z) [
  | inl c ↦ absurd (n a (ap T (sym c.0) ∙ h))
  | inr c ↦ c.1 ∙ h
]

module _ {A E : Type 0} (σ : System ℕ A E) where
  open σ use {kind, first, second}

  -- Both pairs that x calls are settled in T.
  abbrev pub Both : (ℕ → Mark A) → ℕ → Type 0
  Both T x = (a : A) × (c : A) × (T (first x) ≡ settled a) × (T (second x a) ≡ settled c)

  both_grows : {T U : ℕ → Mark A} {x : ℕ} → Grows T U → Both T x → Both U x
  both_grows {x = x} g b = (b.0, b.1, g (first x) b.0 b.2, g (second x b.0) b.1 b.3)

  -- The value a is right for x, and what x calls is settled.
  pub record Fits (T : ℕ → Mark A) (x : ℕ) (a : A) : Type 0 where
    pub right : Means σ x (value a)
    pub closed : kind x ≡ calls → Both T x

  -- The value of a leaf fits.
  pub leaf_fits : {T : ℕ → Mark A} {x : ℕ} {a : A} → kind x ≡ gives a → Fits T x a
  leaf_fits q = record { right = (1, 1, leaf q); closed = λ q'. absurd (true≢false (cc)) }

  -- What fits a table fits one that holds more;
  pub fits_grows : {T U : ℕ → Mark A} {x : ℕ} {a : A} → Grows T U → Fits T x a → Fits U x a
  fits_grows g f = record { right = f.right; closed = λ q. both_grows g (f.closed q) }

  -- x calls y, as far as T tells.
  pub data Link (T : ℕ → Mark A) (x y : ℕ) : Type 0 where
    link_first : kind x ≡ calls → y ≡ first x → Link T x y
    link_second : {a : A} → kind x ≡ calls → T (first x) ≡ settled a → y ≡ second x a → Link T x y

  -- its links remain,
  pub link_grows : {T U : ℕ → Mark A} {x y : ℕ} → Grows T U → Link T x y → Link U x y
  link_grows g (link_first q r) = link_first q r
  link_grows {x = x} g (link_second {a = a} q t r) = link_second q (g (first x) a t) r

  -- The open pairs, the latest first: each is called by the one after it, and root is the last.
  pub data Trail (T : ℕ → Mark A) (root : ℕ) : List ℕ → Type 0 where
    bottom : Trail T root []
    start : Trail T root (root ∷ [])
    push : {x y : ℕ} {s : List ℕ} → Trail T root (x ∷ s) → ¬ In y (x ∷ s) → Link T x y → Trail T root (y ∷ x ∷ s)

  -- and its trail.
  pub trail_grows : {T U : ℕ → Mark A} {root : ℕ} {s : List ℕ} → Grows T U → Trail T root s → Trail U root s
  trail_grows g bottom = bottom
  trail_grows g start = start
  trail_grows g (push t n l) = push (trail_grows g t) n (link_grows g l)

  -- A trail without its top is a trail.
  pub trail_pop : {T : ℕ → Mark A} {root x : ℕ} {s : List ℕ} → Trail T root (x ∷ s) → Trail T root s
  trail_pop start = bottom
  trail_pop (push t n l) = t

  -- The top stands nowhere under itself.
  pub trail_fresh : {T : ℕ → Mark A} {root x : ℕ} {s : List ℕ} → Trail T root (x ∷ s) → ¬ In x s
  trail_fresh start = λ i. i
  trail_fresh (push t n l) = n

  -- The asked pair is on the trail.
  pub trail_root : {T : ℕ → Mark A} {root x : ℕ} {s : List ℕ} → Trail T root (x ∷ s) → In root (x ∷ s)
  trail_root start = inl refl
  trail_root (push t n l) = inr (trail_root t)

  -- Where the top is the asked pair, nothing is under it.
  pub at_root : {T : ℕ → Mark A} {root x : ℕ} {s : List ℕ} → x ≡ root → Trail T root (x ∷ s) → s ≡ []
  at_root r start = refl
  at_root {x = x} r (push {x = y} {s = s} t n l) = absurd (n (subst (λ (u : ℕ). In u (y ∷ s)) (sym r) (trail_root t)))

  -- Each pair under the top calls one of the trail.
  pub trail_link : {T : ℕ → Mark A} {root t x : ℕ} {s : List ℕ} → Trail T root (t ∷ s) → In x s → (y : ℕ) × In y (t ∷ s) × Link T x y
  trail_link start i = absurd i
  trail_link {T = T} (push {y = y} t n l) (inl r) = (y, inl refl, subst (λ (u : ℕ). Link T u y) (sym r) l)
  trail_link (push t n l) (inr i) =
      let j = trail_link t i in
      (j.0, inr j.1, j.2)
