-- The letters of a text, found in one pass over its bytes. Assumes nothing.
use mathlib.Core.Bool.{Bool, true, false, cond, ◌||◌, true≢false, or-false, or_comm}
use mathlib.Core.List.{List, [], ◌∷◌, ◌++◌, append_assoc, append-nil}
use mathlib.Core.Path.{◌≡◌, refl, sym, ap, ◌∙◌}
use Prim.Native.Nat.{ℕ, suc, ◌+◌, ◌≤◌}
use native.Mathlib.Omega.{arith}
use lib.Dec.{eqb}
use lib.ListN.{length, length-append}
use borrow.Author.Tests.{eqb-true, ne_eqb}
use Rattle.notation.specs.Text.{among, firsts, rank, capital}
use Rattle.notation.specs.Capitals.{capitals_after, capitals, number_in}
use Rattle.notation.proofs.Small.{among_append}
use Rattle.notation.proofs.Ranks.{rank_left, rank_right}
use Rattle.notation.proofs.Capitals.{at_capital}
use Rattle.notation.proofs.FewLetters.{letters_few}

seen_more : (A : ℕ) (found : List ℕ) (b : ℕ) → among A (found ++ b ∷ []) ≡ among A (b ∷ found)
seen_more A found b = among_append A found (b ∷ []) ∙ rw (or-false (eqb A b)) (or_comm (among A found) (eqb A b))

-- What appears first depends only on which letters were seen.
firsts_same : (As xs ys : List ℕ) → ((A : ℕ) → among A xs ≡ among A ys) → firsts xs As ≡ firsts ys As
unfolding firsts
firsts_same [] xs ys h = refl
firsts_same (A ∷ As) xs ys h =
    rw (h A) (go (among A ys) (firsts_same As xs ys h) (firsts_same As (A ∷ xs) (A ∷ ys) (λ B. ap (λ (t : Bool). eqb B A || t) (h B))))
  where
    go : (t : Bool) → firsts xs As ≡ firsts ys As → firsts (A ∷ xs) As ≡ firsts (A ∷ ys) As
        → cond t (firsts xs As) (A ∷ firsts (A ∷ xs) As) ≡ cond t (firsts ys As) (A ∷ firsts (A ∷ ys) As)
    go true p q = p
    go false p q = ap (λ (l : List ℕ). A ∷ l) q

-- Letters found so far, in their order, with those behind the next k bytes of the rest, are those of the whole text.
pub record Found (found : List ℕ) (k : ℕ) (rest s : List ℕ) : Type 0 where
  pub together : found ++ firsts found (capitals_after k rest) ≡ firsts [] (capitals s)

pub found_none : (s : List ℕ) → Found [] 0 s s
found_none s = record { together = refl }

module _ {found s : List ℕ} where
  pub found_all : {k : ℕ} → Found found k [] s → found ≡ firsts [] (capitals s)
  unfolding capitals_after firsts
  found_all f = sym (append-nil found) ∙ f.together

  pub found_skipped : {k b : ℕ} {rest : List ℕ} → Found found (suc k) (b ∷ rest) s → Found found k rest s
  unfolding capitals_after
  found_skipped f = record { together = f.together }

  pub found_quote : {b : ℕ} {rest : List ℕ} → b ≡ 39 → Found found 0 (b ∷ rest) s → Found found 2 rest s
  unfolding capitals_after
  found_quote e f = record { together = rw e at f.together }

  pub found_other : {b : ℕ} {rest : List ℕ} → (b ≡ 39 → ⊥) → capital b ≡ false → Found found 0 (b ∷ rest) s → Found found 0 rest s
  unfolding capitals_after
  found_other {b = b} n c f = record { together = rw (ne_eqb b 39 n, c) at f.together }

  pub found_again : {b : ℕ} {rest : List ℕ} → capital b ≡ true → among b found ≡ true → Found found 0 (b ∷ rest) s → Found found 0 rest s
  unfolding firsts
  found_again {b = b} {rest = rest} c h f = record { together = rw (at_capital b rest c, h) at f.together }

  pub found_new : {b : ℕ} {rest : List ℕ} → capital b ≡ true → among b found ≡ false → Found found 0 (b ∷ rest) s → Found (found ++ b ∷ []) 0 rest s
  unfolding firsts
  found_new {b = b} {rest = rest} c h f =
      let e : found ++ b ∷ firsts (b ∷ found) (capitals rest) ≡ firsts [] (capitals s) = rw (at_capital b rest c, h) at f.together in
      let same = firsts_same (capitals rest) (found ++ b ∷ []) (b ∷ found) (λ A. seen_more A found b) in
      record { together = append_assoc found (b ∷ []) (firsts (found ++ b ∷ []) (capitals rest)) ∙ rw same e }

  pub found_few : {k : ℕ} {rest : List ℕ} → Found found k rest s → length found ≤ 26
  found_few f = omega (arith, letters_few s, simp length-append at (ap length f.together))

-- ---- Their numbers.

pub number_known : (As : List ℕ) (A : ℕ) → among A As ≡ true → number_in As A ≡ rank As A
unfolding number_in
number_known As A h = rw h

-- A new letter takes the next number, and the others keep theirs.
pub number_new : (found : List ℕ) (b A : ℕ) → among b found ≡ false → number_in (found ++ b ∷ []) A ≡ cond (eqb A b) (length found + 1) (number_in found A)
unfolding number_in rank
number_new found b A h = rw (among_append A found (b ∷ [])) (go (among A found) (eqb A b) refl refl)
  where
    go : (t u : Bool) → among A found ≡ t → eqb A b ≡ u
        → cond (t || (u || false)) (rank (found ++ b ∷ []) A) 0 ≡ cond u (length found + 1) (cond t (rank found A) 0)
    go true true p q = let e = eqb-true A b q in absurd (true≢false (sym p ∙ rw e h))
    go true false p q = rank_left A found (b ∷ []) p
    go false true p q = rank_right A found (b ∷ []) p ∙ rw q refl
    go false false p q = refl
