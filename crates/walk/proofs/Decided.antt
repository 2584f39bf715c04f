-- The count of decided cells, cell by cell. Assumes nothing.
use mathlib.Core.Path.{◌≡◌, refl, subst}
use mathlib.Core.Bool.{Bool, true, false, cond}
use mathlib.Core.List.{List}
use mathlib.Core.Logic.{◌≢◌}
use Prim.Native.Nat.{ℕ, zero, suc, ◌+◌, ◌≤◌, ◌<◌}
use native.Mathlib.Decide.{ℕ_discrete}
use native.Mathlib.Omega.{arith}
use lib.Dec.{eqb}
use borrow.Author.Tests.{eq-eqb, ne_eqb}
use Rattle.schema.specs.Cells.{held_at, stored, HasCell}
use Rattle.schema.specs.Table.{decided}
use Rattle.schema.proofs.Cells.{stored_there, stored_elsewhere}
use Rattle.step.specs.Codes.{fresh}

-- One cell more, a blank one, and one that is not.
pub decided_blank : (T : List ℕ) (i : ℕ) → held_at T i ≡ 0 → decided (suc i) T ≡ decided i T
unfolding decided
decided_blank T i e = rw (eq-eqb (held_at T i) 0 e)

pub decided_more : (T : List ℕ) (i : ℕ) → held_at T i ≢ 0 → decided (suc i) T ≡ suc (decided i T)
unfolding decided
decided_more T i e = rw (ne_eqb (held_at T i) 0 e)

-- With it and what is new of it, one more.
decided_fresh : (T : List ℕ) (i : ℕ) → suc (decided i T) ≡ decided (suc i) T + fresh (held_at T i)
unfolding decided
decided_fresh T i = go (eqb (held_at T i) 0) (decided i T)
  where
    go : (b : Bool) (e : ℕ) → suc e ≡ cond b e (suc e) + cond b 1 0
    go true e = omega arith
    go false e = omega arith

-- Where the same cells are blank, as many are decided.
pub decided_same : (T U : List ℕ) (m : ℕ) → ((i : ℕ) → i < m → held_at T i ≡ 0 → held_at U i ≡ 0) → ((i : ℕ) → i < m → held_at T i ≢ 0 → held_at U i ≢ 0)
    → decided m U ≡ decided m T
unfolding decided
decided_same T U zero b f = refl
decided_same T U (suc m) b f =
    let i = decided_same T U m (λ j n. b j (omega arith)) (λ j n. f j (omega arith)) in
    elim (ℕ_discrete (held_at T m) 0) [
      | yes e ↦
          let a = decided_blank T m e in
          let c = decided_blank U m (b m (omega arith) e) in
          omega arith
      | no d ↦
          let a = decided_more T m d in
          let c = decided_more U m (f m (omega arith) d) in
          omega arith
    ]

-- A store that is not of a blank decides its cell, if that was new.
pub decided_stored : (T : List ℕ) (m i c far : ℕ) → i < m → HasCell T i → c ≢ 0 → decided m (stored T i c far) ≡ decided m T + fresh (held_at T i)
decided_stored T zero i c far h l d = absurd (omega arith)
decided_stored T (suc m) i c far h l d = elim (ℕ_discrete i m) [
  | yes e ↦ at_end_law e
  | no n ↦
      let k = decided_stored T m i c far (omega arith) l d in
      let z = stored_elsewhere T i m c far (λ e. omega arith) in
      elim (ℕ_discrete (held_at T m) 0) [
        | yes b ↦
            let a = decided_blank T m b in
            let f = decided_blank (stored T i c far) m (omega arith) in
            omega arith
        | no b ↦
            let a = decided_more T m b in
            let f = decided_more (stored T i c far) m (λ u. b (omega arith)) in
            omega arith
      ]
]
  where
    before_end : decided i (stored T i c far) ≡ decided i T
    before_end =
        decided_same T (stored T i c far) i (λ j n e. let z = stored_elsewhere T i j c far (λ u. omega arith) in omega arith)
        (λ j n e u. let z = stored_elsewhere T i j c far (λ q. omega arith) in e (omega arith))

    there : decided (suc i) (stored T i c far) ≡ decided (suc i) T + fresh (held_at T i)
    there =
        let t = stored_there T i c far l in
        let a = decided_more (stored T i c far) i (λ u. d (omega arith)) in
        let b = before_end in
        let k = decided_fresh T i in
        omega arith

    at_end_law : i ≡ m → decided (suc m) (stored T i c far) ≡ decided (suc m) T + fresh (held_at T i)
    at_end_law e = subst (λ (k : ℕ). decided (suc k) (stored T i c far) ≡ decided (suc k) T + fresh (held_at T i)) e there

-- No more than all are decided.
pub decided_most : (T : List ℕ) (m : ℕ) → decided m T ≤ m
unfolding decided
decided_most T zero = omega arith
decided_most T (suc m) = go (eqb (held_at T m) 0) (decided m T) (decided_most T m)
  where
    go : (t : Bool) (e : ℕ) → e ≤ m → cond t e (suc e) ≤ suc m
    go true e q = omega arith
    go false e q = omega arith

-- Where all are blank, none is decided.
pub decided_zero : (T : List ℕ) (m : ℕ) → ((i : ℕ) → i < m → held_at T i ≡ 0) → decided m T ≡ 0
unfolding decided
decided_zero T zero b = refl
decided_zero T (suc m) b =
    let i = decided_zero T m (λ j n. b j (omega arith)) in
    let a = decided_blank T m (b m (omega arith)) in
    omega arith
