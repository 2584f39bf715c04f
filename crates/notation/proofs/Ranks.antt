-- The rank of a letter in a list that has it: from 1 to the length, and no other letter's. Assumes nothing.
use mathlib.Core.Bool.{Bool, true, false, cond, ◌||◌, false≢true}
use mathlib.Core.List.{List, [], ◌∷◌, ◌++◌}
use mathlib.Core.Path.{◌≡◌, refl, sym, ap, ◌∙◌}
use Prim.Native.Nat.{ℕ, suc, ◌+◌, ◌≤◌}
use native.Mathlib.Omega.{arith}
use lib.Dec.{eqb}
use lib.ListN.{length}
use borrow.Author.Tests.{eqb-true}
use Rattle.grammar.proofs.Fitting.{neither_true}
use Rattle.notation.specs.Text.{among, rank}

pub rank_some : (Bs : List ℕ) (A : ℕ) → 1 ≤ rank Bs A
unfolding rank
rank_some [] A = omega arith
rank_some (B ∷ Bs) A = go (eqb A B)
  where
    go : (t : Bool) → 1 ≤ cond t 1 (suc (rank Bs A))
    go true = omega arith
    go false = omega arith

pub rank_low : (Bs : List ℕ) (A : ℕ) → among A Bs ≡ true → rank Bs A ≤ length Bs
unfolding rank
rank_low [] A h = absurd (false≢true h)
rank_low (B ∷ Bs) A h = go (eqb A B) h (λ e. rank_low Bs A e)
  where
    go : (t : Bool) → (t || among A Bs) ≡ true → (among A Bs ≡ true → rank Bs A ≤ length Bs) → cond t 1 (suc (rank Bs A)) ≤ length (B ∷ Bs)
    go true e r = omega arith
    go false e r = let l = r e in omega arith

pub rank_one : (Cs : List ℕ) (A B : ℕ) → among A Cs ≡ true → among B Cs ≡ true → rank Cs A ≡ rank Cs B → A ≡ B
unfolding rank
rank_one [] A B a b e = absurd (false≢true a)
rank_one (C ∷ Cs) A B a b e = go (eqb A C) (eqb B C) refl refl a b e (λ x y z. rank_one Cs A B x y z)
  where
    go : (t u : Bool) → eqb A C ≡ t → eqb B C ≡ u → (t || among A Cs) ≡ true → (u || among B Cs) ≡ true
        → cond t 1 (suc (rank Cs A)) ≡ cond u 1 (suc (rank Cs B))
        → (among A Cs ≡ true → among B Cs ≡ true → rank Cs A ≡ rank Cs B → A ≡ B) → A ≡ B
    go true true t u x y z r = eqb-true A C t ∙ sym (eqb-true B C u)
    go true false t u x y z r = let l = rank_some Cs B in absurd (omega arith)
    go false true t u x y z r = let l = rank_some Cs A in absurd (omega arith)
    go false false t u x y z r = r x y (omega arith)

-- In joined lists.
pub rank_left : (A : ℕ) (xs ys : List ℕ) → among A xs ≡ true → rank (xs ++ ys) A ≡ rank xs A
unfolding rank
rank_left A [] ys h = absurd (false≢true h)
rank_left A (x ∷ xs) ys h = go (eqb A x) h (rank_left A xs ys)
  where
    go : (t : Bool) → (t || among A xs) ≡ true → (among A xs ≡ true → rank (xs ++ ys) A ≡ rank xs A)
        → cond t 1 (suc (rank (xs ++ ys) A)) ≡ cond t 1 (suc (rank xs A))
    go true e r = refl
    go false e r = ap suc (r e)

pub rank_right : (A : ℕ) (xs ys : List ℕ) → among A xs ≡ false → rank (xs ++ ys) A ≡ length xs + rank ys A
unfolding rank
rank_right A [] ys h = omega arith
rank_right A (x ∷ xs) ys h =
    let n = neither_true (eqb A x) (among A xs) h in
    rw n.0 (omega (arith, rank_right A xs ys n.1))
