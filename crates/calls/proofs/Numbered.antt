-- A system whose pairs are numbered below N: the walk over the numbers answers for the pairs. Assumes nothing.
use mathlib.Core.Path.{◌≡◌, refl, sym, ap, ◌∙◌, subst}
use mathlib.Core.Logic.{◌↔◌}
use mathlib.Core.List.{[]}
use Prim.Native.Nat.{ℕ, ◌<◌}
use Rattle.calls.proofs.System.{System, calls, Answer, value, halts, loops, Means}
use Rattle.calls.proofs.Reach.{Reach}
use Rattle.calls.proofs.Follow.{Follow, Named}
use Rattle.calls.proofs.Invariant.{Bounded}
use Rattle.calls.proofs.Carry.{Agree, means_iff, reach_over, follow_over}

module _ {X A E : Type 0} (σ : System X A E) (number : X → ℕ) (pair : ℕ → X) where
  open σ use {kind, first, second, join}

  -- The system of the numbers.
  unfoldable pub numbered : System ℕ A E
  numbered = record {
    kind = λ i. kind (pair i);
    first = λ i. number (first (pair i));
    second = λ i a. number (second (pair i) a);
    join = λ i. join (pair i);
  }

module _ {X A E : Type 0} (σ : System X A E) (number : X → ℕ) (pair : ℕ → X) (R : X → Type 0) (N : ℕ) where
  open σ use {kind, first, second}

  -- The pairs of R have the numbers below N, one each, and call pairs of R.
  pub record Numbering : Type 0 where
    pub pair_number : (x : X) → R x → pair (number x) ≡ x
    pub number_pair : (i : ℕ) → i < N → number (pair i) ≡ i
    pub below : (x : X) → R x → number x < N
    pub within : (i : ℕ) → i < N → R (pair i)
    pub first_within : (x : X) → R x → kind x ≡ calls → R (first x)
    pub second_within : (x : X) (a : A) → R x → kind x ≡ calls → Means σ (first x) (value a) → R (second x a)

module _ {X A E : Type 0} {σ : System X A E} {number : X → ℕ} {pair : ℕ → X} {R : X → Type 0} {N : ℕ} (numbering : Numbering σ number pair R N) where
  open σ use {kind, first, second, join}

  abbrev numbers : System ℕ A E
  numbers = numbered σ number pair

  -- What the number of a pair does.
  module _ (x : X) (r : R x) where
    -- Its kind is the kind of the pair,
    pub kind_number : numbers.kind (number x) ≡ kind x
    unfolding numbered
    kind_number = ap kind (numbering.pair_number x r)

    -- its first pair is the number of the first,
    pub first_number : numbers.first (number x) ≡ number (first x)
    unfolding numbered
    first_number = ap (λ (y : X). number (first y)) (numbering.pair_number x r)

    -- its second that of the second.
    pub second_number : (a : A) → numbers.second (number x) a ≡ number (second x a)
    unfolding numbered
    second_number a = ap (λ (y : X). number (second y a)) (numbering.pair_number x r)

    -- its join that of the pair.
    pub join_number : (a c : A) → numbers.join (number x) a c ≡ join x a c
    unfolding numbered
    join_number a c = ap (λ (y : X). join y a c) (numbering.pair_number x r)

  -- The numbers do as the pairs do, and the pairs as the numbers.
  forth : Agree σ numbers number R
  forth = record {
    kinds = kind_number;
    firsts = λ x r q. (first_number x r, numbering.first_within x r q);
    seconds = λ x a r q m. (second_number x r a, numbering.second_within x a r q m);
    joins = λ x a c r. join_number x r a c;
  }

  of_second : (i : ℕ) (a : A) → i < N → kind (pair i) ≡ calls → Means numbers (numbers.first i) (value a) → R (second (pair i) a)
  unfolding numbered
  of_second i a l q m =
      let r = numbering.within i l in
      numbering.second_within (pair i) a r q ((means_iff σ numbers number R forth (first (pair i)) (value a) (numbering.first_within (pair i) r q)).1 m)

  back : Agree numbers σ pair (λ i. i < N)
  unfolding numbered
  back = record {
    kinds = λ i l. refl;
    firsts = λ i l q.
        let r = numbering.first_within (pair i) (numbering.within i l) q in
        (sym (numbering.pair_number (first (pair i)) r), numbering.below (first (pair i)) r);
    seconds = λ i a l q m.
        let r = of_second i a l q m in
        (sym (numbering.pair_number (second (pair i) a) r), numbering.below (second (pair i) a) r);
    joins = λ i a c l. refl;
  }

  -- What the walk over N cells asks of a system.
  pub bounded : Bounded numbers N
  bounded = record { first_in_law = λ i l q. (back.firsts i l q).1; second_in_law = λ i a l q m. (back.seconds i a l q m).1 }

  -- The number of a pair means what the pair means.
  pub means_number : (x : X) (o : Answer A E) → R x → Means σ x o ↔ Means numbers (number x) o
  means_number x o r = means_iff σ numbers number R forth x o r

  -- A pair means what its number means.
  pub means_pair : (i : ℕ) (o : Answer A E) → i < N → Means numbers i o ↔ Means σ (pair i) o
  means_pair i o l = means_iff numbers σ pair (λ i. i < N) back i o l

  module _ (x : X) (r : R x) where
    -- The numbers reached are those of the pairs reached.
    pub reach_number : {y : X} → Reach σ x y → R y × Reach numbers (number x) (number y)
    reach_number p = reach_over σ numbers number R forth r p

    -- The pairs of the numbers reached are reached.
    pub reach_pair : {i : ℕ} → Reach numbers (number x) i → (i < N) × Reach σ x (pair i)
    reach_pair {i} p =
        let q = reach_over numbers σ pair (λ i. i < N) back (numbering.below x r) p in
        (q.0, subst (λ (y : X). Reach σ y (pair i)) (numbering.pair_number x r) q.1)

    follow_pair : {o : Answer A E} {z : ℕ} → Follow numbers [] (number x) o z → Follow σ [] x o (pair z)
    follow_pair {o} {z} p =
        subst (λ (y : X). Follow σ [] y o (pair z)) (numbering.pair_number x r)
        (follow_over numbers σ pair (λ i. i < N) back (λ i j l m e. sym (numbering.number_pair i l) ∙ ap number e ∙ numbering.number_pair j m)
        (λ i m. absurd m) (numbering.below x r) p)

    -- The named number is that of the named pair.
    pub named_pair : (o : Answer A E) (z : ℕ) → Named numbers o (number x) z → Named σ o x (pair z)
    named_pair (value a) z p = tt
    named_pair (halts e) z p = follow_pair p
    named_pair loops z p = follow_pair p
