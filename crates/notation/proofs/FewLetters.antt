-- A text has at most 26 letters. Assumes nothing.
use mathlib.Core.Bool.{Bool, true, false, cond, ◌||◌, false≢true}
use mathlib.Core.List.{List, [], ◌∷◌}
use mathlib.Core.Logic.{◌⊎◌, inl, inr}
use mathlib.Core.Path.{◌≡◌, refl, sym, ap, subst}
use Prim.Native.Nat.{ℕ, zero, suc, ◌+◌, ◌-◌, ◌≤◌}
use native.Mathlib.Omega.{arith}
use lib.Dec.{eqb}
use lib.ListN.{length}
use borrow.Author.Tests.{eqb-true, ne_eqb}
use Rattle.calls.proofs.Count.{sum, sum_put, count_sum, count_le}
use Rattle.grammar.proofs.Fitting.{within_bounds}
use Rattle.notation.specs.Text.{among, firsts, capital}
use Rattle.notation.specs.Capitals.{capitals_after, capitals}
use Rattle.notation.proofs.Small.{among_first}

abbrev pub AllCapital : List ℕ → Type 0
AllCapital [] = Unit {0}
AllCapital (A ∷ As) = (capital A ≡ true) × AllCapital As

pub capitals_all : (s : List ℕ) (k : ℕ) → AllCapital (capitals_after k s)
unfolding capitals_after
capitals_all [] k = tt
capitals_all (b ∷ s) zero = go (eqb b 39) (capital b) refl (λ k. capitals_all s k)
  where
    go : (t u : Bool) → capital b ≡ u → ((k : ℕ) → AllCapital (capitals_after k s))
        → AllCapital (cond t (capitals_after 2 s) (cond u (b ∷ capitals_after 0 s) (capitals_after 0 s)))
    go true u e r = r 2
    go false true e r = (e, r 0)
    go false false e r = r 0
capitals_all (b ∷ s) (suc k) = capitals_all s k

pub capital_among : (As : List ℕ) (A : ℕ) → AllCapital As → among A As ≡ true → capital A ≡ true
capital_among [] A c e = absurd (false≢true e)
capital_among (B ∷ As) A c e = go (eqb A B) refl e (λ h. capital_among As A c.1 h)
  where
    go : (t : Bool) → eqb A B ≡ t → (t || among A As) ≡ true → (among A As ≡ true → capital A ≡ true) → capital A ≡ true
    go true p h r = rw (eqb-true A B p) c.0
    go false p h r = r h

-- 1 for each capital that was seen, counted from 65.
abbrev mark : List ℕ → ℕ → ℕ
mark seen i = cond (among (i + 65) seen) 1 0

marks_few : (seen : List ℕ) → sum (mark seen) 26 ≤ 26
marks_few seen = count_le (count_sum (λ i. among (i + 65) seen ≡ true) (mark seen) 26 (λ i l. go (among (i + 65) seen)))
  where
    go : (t : Bool) → ((t ≡ true) × ◌≡◌ {A = ℕ} (cond t 1 0) 1) ⊎ ((t ≡ true → ⊥) × ◌≡◌ {A = ℕ} (cond t 1 0) 0)
    go true = inl (refl, refl)
    go false = inr (false≢true, refl)

marks_more : (A : ℕ) (seen : List ℕ) → capital A ≡ true → among A seen ≡ false → sum (mark (A ∷ seen)) 26 ≡ sum (mark seen) 26 + 1
marks_more A seen c n =
    let l = within_bounds 65 90 A c in
    let e : A - 65 + 65 ≡ A = omega arith in
    let old : mark seen (A - 65) ≡ 0 = rw (e, n) in
    let seen_now : among (A - 65 + 65) (A ∷ seen) ≡ true = subst (λ (x : ℕ). among x (A ∷ seen) ≡ true) (sym e) (among_first A seen) in
    let new : mark (A ∷ seen) (A - 65) ≡ 1 = ap (λ (t : Bool). cond {A = ℕ} t 1 0) seen_now in
    omega (arith, sum_put (mark seen) (mark (A ∷ seen)) (A - 65) 26 (omega arith) (λ y d. rw (ne_eqb (y + 65) A (λ w. d (omega arith)))))

firsts_few : (As seen : List ℕ) → AllCapital As → length (firsts seen As) + sum (mark seen) 26 ≤ 26
unfolding firsts
firsts_few [] seen c = let l = marks_few seen in omega arith
firsts_few (A ∷ As) seen c = go (among A seen) refl (λ z. firsts_few As z c.1)
  where
    go : (t : Bool) → among A seen ≡ t → ((z : List ℕ) → length (firsts z As) + sum (mark z) 26 ≤ 26)
        → length (cond t (firsts seen As) (A ∷ firsts (A ∷ seen) As)) + sum (mark seen) 26 ≤ 26
    go true e r = r seen
    go false e r = let l = r (A ∷ seen) in omega (arith, marks_more A seen c.0 e)

pub letters_few : (s : List ℕ) → length (firsts [] (capitals s)) ≤ 26
letters_few s = omega (arith, firsts_few (capitals s) [] (capitals_all s 0))
