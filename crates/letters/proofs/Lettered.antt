-- One letter more, and its number. Assumes nothing.
use mathlib.Core.Bool.{Bool, true, false, cond}
use mathlib.Core.List.{List}
use mathlib.Core.Logic.{◌≢◌}
use mathlib.Core.Path.{◌≡◌, refl, sym, ap, ◌∙◌}
use Prim.Native.Nat.{ℕ, ◌+◌, ◌-◌, ◌≤◌, ◌<◌}
use native.Mathlib.Decide.{ℕ_discrete}
use native.Mathlib.Omega.{arith}
use lib.ListN.{get_or, set, length-append, length-set}
use lib.Seq.{get_or-set_same, get_or-set_other}
use borrow.Author.Tests.{eq-eqb, ne_eqb}
use Rattle.grammar.proofs.Fitting.{within_bounds}
use Rattle.notation.specs.Capitals.{number_in}
use Rattle.notation.specs.Text.{among, rank, capital}
use Rattle.notation.proofs.Found.{number_new}
use Rattle.notation.proofs.Ranks.{rank_some}
use Rattle.letters.specs.Numbering.{Adds}

pub index_in : (A : ℕ) → capital A ≡ true → (65 ≤ A) × (A - 65 < 26)
index_in A e = let b = within_bounds 65 90 A e in (b.0, omega arith)

-- A capital has a number exactly where it is one of the letters.
has_number : (xs : List ℕ) (A : ℕ) → number_in xs A ≢ 0 → among A xs ≡ true
unfolding number_in
has_number xs A d = go (among A xs) d
  where
    go : (t : Bool) → cond t (rank xs A) 0 ≢ 0 → t ≡ true
    go true d = refl
    go false d = absurd (d refl)

no_number : (xs : List ℕ) (A : ℕ) → number_in xs A ≡ 0 → among A xs ≡ false
unfolding number_in
no_number xs A e = go (among A xs) e
  where
    go : (t : Bool) → cond t (rank xs A) 0 ≡ 0 → t ≡ false
    go true e = let s = rank_some xs A in absurd (omega arith)
    go false e = refl

module _ (A : ℕ) (known : capital A ≡ true) {count : ℕ} {numbers : List ℕ} where
  pub adds_none : get_or numbers (A - 65) 0 ≢ 0 → Adds A numbers count numbers count
  adds_none d xs n = let e = has_number xs A (λ z. d (n.held A known ∙ z)) in rw e n

  pub adds_one : get_or numbers (A - 65) 0 ≡ 0 → Adds A numbers count (set numbers (A - 65) (count + 1)) (count + 1)
  adds_one z xs n =
      let e = no_number xs A (sym (n.held A known) ∙ z) in
      let i = index_in A known in
      let h = n.size in
      let c = n.counted in
      rw e (record {
        counted = simp length-append (omega arith);
        size = length-set numbers (A - 65) (count + 1) ∙ h;
        held = λ B known-B. elim (ℕ_discrete B A) [
          | yes q ↦ rw (q, number_new xs A A e, eq-eqb A A refl) (get_or-set_same numbers (A - 65) (count + 1) 0 (omega arith) ∙ ap (λ k. k + 1) c)
          | no d ↦
              let j = index_in B known-B in
              rw (number_new xs A B e, ne_eqb B A d) (get_or-set_other numbers (A - 65) (B - 65) (count + 1) 0 (λ w. d (omega arith)) ∙ n.held B known-B)
        ];
      })
