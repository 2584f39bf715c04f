-- A system of deterministic calls, its derivations, and what they say of a pair. Assumes nothing.
use mathlib.Core.Path.{◌≡◌}
use Prim.Native.Nat.{ℕ, ◌+◌, max}

-- What a pair does: it gives a value, it is stuck, or it calls two pairs, the second of them chosen by the value of the first.
pub data Kind (A E : Type 0) : Type 0 where
  gives : A → Kind A E
  stuck : E → Kind A E
  calls : Kind A E

-- The pairs are of type X, the values of type A, the ways to be stuck of type E.
pub record System (X A E : Type 0) : Type 0 where
  pub kind : X → Kind A E
  pub first : X → X
  pub second : X → A → X
  pub join : X → A → A → A

-- What derivations say of a pair: a value, a halt, or that there is none.
pub data Answer (A E : Type 0) : Type 0 where
  value : A → Answer A E
  halts : E → Answer A E
  loops : Answer A E

module _ {X A E : Type 0} (σ : System X A E) where
  open σ use {kind, first, second, join}

  -- Done x a k h: x has the value a, by a derivation of k steps and height h.
  pub data Done : X → A → ℕ → ℕ → Type 0 where
    leaf : {x : X} {a : A} → kind x ≡ gives a → Done x a 1 1
    node : {x : X} {a c : A} {k l g h : ℕ} → kind x ≡ calls → Done (first x) a k g → Done (second x a) c l h
        → Done x (join x a c) (k + l + 1) (max g h + 1)

  -- Halt e x: the calls of x come to a pair that is stuck with e.
  pub data Halt (e : E) : X → Type 0 where
    stop : {x : X} → kind x ≡ stuck e → Halt e x
    by_first : {x : X} → kind x ≡ calls → Halt e (first x) → Halt e x
    by_second : {x : X} {a : A} {k h : ℕ} → kind x ≡ calls → Done (first x) a k h → Halt e (second x a) → Halt e x

  -- No derivation gives x a value.
  abbrev pub NotDone : X → Type 0
  NotDone x = (a : A) (k h : ℕ) → Done x a k h → ⊥

  -- No finite derivation says anything of x.
  pub record Loop (x : X) : Type 0 where
    pub not_done : NotDone x
    pub not_halt : (e : E) → Halt e x → ⊥

  -- The derivations say this of x.
  abbrev pub Means : X → Answer A E → Type 0
  Means x (value a) = (k : ℕ) × (h : ℕ) × Done x a k h
  Means x (halts e) = Halt e x
  Means x loops = Loop x
