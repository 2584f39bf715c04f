-- No byte lies in two of the ranges, by one test that antt computes; so each byte of a range has its class, wherever the range stands in the list. Assumes
-- nothing.
use mathlib.Core.Bool.{Bool, true, false, cond, ◌&&◌, and-eq-true_iff}
use mathlib.Core.List.{List, [], ◌∷◌, map, Mem, Memᴰ}
use mathlib.Core.Logic.{∥∥₁_elim}
use mathlib.Core.Path.{◌≡◌, refl, sym, ap, subst, ◌∙◌}
use Prim.Native.Nat.{ℕ, suc, ◌≤◌}
use native.Mathlib.Nat.{ℕ_set}
use native.Mathlib.Omega.{arith}
use lib.Dec.{leb}
use lib.ListN.{get_or, replicate}
use borrow.Author.Tests.{leb-true, le-leb}
use Rattle.std.proofs.lemmas.List.{get_or-replicate}
use Rattle.std.proofs.lemmas.List.FromFn.{get_or-map-range_with_len}
use Rattle.std.specs.List.{range_with_len}
use Rattle.classes.specs.Class.{Range, range, ranges, class_in, class_of}
use Rattle.classes.specs.Disjoint.{holding, Disjoint}

-- The test of a byte: one range holds it at most.
once : ℕ → Bool
once b = leb (holding ranges b) 1

each : map once (range_with_len 0 256) ≡ replicate 256 true
unfolding once holding
each = refl

pub ranges_disjoint : Disjoint ranges
unfolding once
ranges_disjoint b h =
    leb-true (holding ranges b) 1
    (sym (get_or-map-range_with_len once 0 256 b b true (omega arith) (omega arith)) ∙ ap (λ (t : List Bool). get_or t b true) each
    ∙ get_or-replicate 256 b true true (omega arith))

module _ (b low high class : ℕ) (l : low ≤ b) (h : b ≤ high) where
  -- The range holds the byte.
  inside : (leb low b && leb b high) ≡ true
  inside = (and-eq-true_iff (leb low b) (leb b high)).1 (le-leb low b l, le-leb b high h)

  -- Another range counts too, or does not.
  either : (t : Bool) (count : ℕ) → 1 ≤ count → 1 ≤ cond t (suc count) count
  either true count k = omega arith
  either false count k = k

  -- So one of the ranges at least holds it.
  held : (rs : List Range) → Memᴰ (range low high class) rs → 1 ≤ holding rs b
  unfolding holding
  held [] x' = elim x' [ ]
  held (r ∷ rs) (Memᴰ.head e) =
      let first = subst (λ (t : Bool). 1 ≤ cond t (suc (holding rs b)) (holding rs b)) (sym inside) (omega arith) in
      subst (λ (x : Range). 1 ≤ holding (x ∷ rs) b) e first
  held (range low' high' other ∷ rs) (Memᴰ.tail m) = either (leb low' b && leb b high') (holding rs b) (held rs m)

  -- An earlier range, of another class, does not hold it too.
  later : (other : ℕ) (t : Bool) (count rest : ℕ) → cond t (suc count) count ≤ 1 → 1 ≤ count → (count ≤ 1 → rest ≡ class) → cond t other rest ≡ class
  later other true count rest n k f = absurd (omega arith)
  later other false count rest n k f = f n

  -- So the class is that of the range.
  found : (rs : List Range) → holding rs b ≤ 1 → Memᴰ (range low high class) rs → class_in rs b ≡ class
  unfolding holding class_in
  found [] n x'' = elim x'' [ ]
  found (r ∷ rs) n (Memᴰ.head e) =
      subst (λ (x : Range). class_in (x ∷ rs) b ≡ class) e (ap (λ (t : Bool). cond t class (class_in rs b)) inside)
  found (range low' high' other ∷ rs) n (Memᴰ.tail m) =
      later other (leb low' b && leb b high') (holding rs b) (class_in rs b) n (held rs m) (λ (k : holding rs b ≤ 1). found rs k m)

-- Each byte of a range has its class.
pub class_of_range : (b low high class : ℕ) → b ≤ 255 → Mem (range low high class) ranges → low ≤ b → b ≤ high → class_of b ≡ class
unfolding class_of
class_of_range b low high class byte m l h =
    ∥∥₁_elim m (ℕ_set (class_of b) class) (found b low high class l h ranges (ranges_disjoint b byte))
