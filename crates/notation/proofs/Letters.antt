-- Every letter of the lines is a letter of the text. Assumes nothing.
use mathlib.Core.Bool.{Bool, true, false, cond, ◌||◌, false≢true}
use mathlib.Core.List.{List, [], ◌∷◌}
use mathlib.Core.Path.{◌≡◌, refl, sym, subst}
use Prim.Native.Nat.{ℕ}
use lib.Dec.{eqb}
use borrow.Author.Tests.{eqb-true}
use Rattle.notation.specs.Text.{Line, letters_of, among, firsts, letters}
use Rattle.notation.proofs.Small.{AllKnown}

-- Every letter that was not seen before appears first somewhere.
appears : (As seen : List ℕ) (A : ℕ) → among A As ≡ true → (among A seen ≡ true → ⊥) → among A (firsts seen As) ≡ true
unfolding firsts
appears [] seen A h n = h
appears (B ∷ Bs) seen A h n = go (eqb A B) (among B seen) refl refl h (λ z e m. appears Bs z A e m)
  where
    go : (t u : Bool) → eqb A B ≡ t → among B seen ≡ u → (t || among A Bs) ≡ true
        → ((z : List ℕ) → among A Bs ≡ true → (among A z ≡ true → ⊥) → among A (firsts z Bs) ≡ true)
        → among A (cond u (firsts seen Bs) (B ∷ firsts (B ∷ seen) Bs)) ≡ true
    go true true e f g r = absurd (n (subst (λ (x : ℕ). among x seen ≡ true) (sym (eqb-true A B e)) f))
    go true false e f g r = rw e refl
    go false true e f g r = r seen g n
    go false false e f g r = rw e (r (B ∷ seen) g (λ m. n (rw e at m)))

pub lines_known : (ls : List Line) → AllKnown (λ A. among A (letters ls) ≡ true) (letters_of ls)
unfolding letters
lines_known ls A a = appears (letters_of ls) [] A a false≢true
