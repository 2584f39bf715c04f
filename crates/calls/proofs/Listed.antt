-- The numbers that are counted, as a list without repetition. Assumes nothing.
use mathlib.Core.HLevel.{⊥_prop}
use mathlib.Core.Path.{◌≡◌, refl, sym, ap, subst}
use mathlib.Core.Logic.{inl, inr, ∥∥₁_elim}
use mathlib.Core.List.Memᴰ
use mathlib.Core.List.{List, [], ◌∷◌, Memᴰ, Nodup, Nodup-nil, Nodup-cons}
use Prim.Native.Nat.{ℕ, suc, ◌<◌}
use native.Mathlib.Decide.{ℕ_discrete}
use native.Mathlib.Omega.{arith}
use lib.ListN.{length}
use Rattle.calls.proofs.Count.{Count, none, hit, miss}

-- The list holds exactly the numbers below n with the property P, each once, and there are c.
pub record Listed (P : ℕ → Type 0) (n c : ℕ) : Type 0 where
  pub list : List ℕ
  pub distinct : Nodup list
  pub only : (i : ℕ) → Memᴰ i list → (i < n) × P i
  pub all : (i : ℕ) → i < n → P i → Memᴰ i list
  pub counted : length list ≡ c

module _ {P : ℕ → Type 0} {n c : ℕ} (r : Listed P n c) where
  listed_hit : P n → Listed P (suc n) (suc c)
  listed_hit p = record {
    list = n ∷ r.list;
    distinct = Nodup-cons.1 (λ m. ∥∥₁_elim m ⊥_prop (λ d. let l = (r.only n d).0 in omega arith), r.distinct);
    only = λ i m. elim (Memᴰ.cases_cons m) [
      | inl e ↦ (omega arith, subst P (sym e) p)
      | inr k ↦ let o = r.only i k in let l = o.0 in (omega arith, o.1)
    ];
    all = λ i l q. elim (ℕ_discrete i n) [
      | yes e ↦ Memᴰ.head e
      | no d ↦ Memᴰ.tail (r.all i (omega arith) q)
    ];
    counted = ap suc r.counted;
  }

  listed_miss : ¬ P n → Listed P (suc n) c
  listed_miss p = record {
    list = r.list;
    distinct = r.distinct;
    only = λ i m. let o = r.only i m in let l = o.0 in (omega arith, o.1);
    all = λ i l q. elim (ℕ_discrete i n) [ yes e ↦ absurd (p (subst P e q)) | no d ↦ r.all i (omega arith) q ];
    counted = r.counted;
  }

-- What is counted can be listed.
pub listed : {P : ℕ → Type 0} {n c : ℕ} → Count P n c → Listed P n c
listed none = record { list = []; distinct = Nodup-nil; only = λ i m. absurd (Memᴰ.not-nil m); all = λ i l q. absurd (omega arith); counted = refl }
listed (hit p i) = listed_hit (listed i) p
listed (miss p i) = listed_miss (listed i) p
