-- The pairs with a result that the question reaches: what such a pair calls is derived in fewer steps, so that no pair comes again among its
-- callers. Assumes nothing.
use mathlib.Core.Path.{◌≡◌, refl, subst}
use mathlib.Core.List.{List}
use Prim.Native.Nat.{ℕ, ◌<◌}
use native.Mathlib.Omega.{arith}
use lib.ListN.{length}
use Rattle.grammar.specs.Rule.{Rule}
use Rattle.schema.specs.Derivation.{Pair, ◌at◌, Result, calls, act, second, Derives}
use Rattle.schema.specs.Reached.{Reached, first_of, of_second}
use Rattle.schema.specs.Table.{held}
use Rattle.schema.proofs.Laws.{derives_one}
use Rattle.schema.proofs.Parts.{parts}
use Rattle.step.specs.Codes.{Settled}
use Rattle.walk.proofs.Marks.{settled_one}
use Rattle.lines.specs.Turning.{Lower, to_first, to_second}
use Rattle.writer.specs.Writing.{Finished}

-- A pair that x reaches, with a result in k steps.
pub record Known (rule : ℕ → Rule) (s : List ℕ) (x y : Pair) (k : ℕ) : Type 0 where
  pub reached : Reached rule s x y
  pub found : Result
  pub height : ℕ
  pub derives : Derives rule s y found k height

module _ {rule : ℕ → Rule} {s : List ℕ} where
  module _ {x : Pair} where
    -- Two such pairs with different counts of steps differ.
    pub apart : {y z : Pair} {i k : ℕ} → Known rule s x y i → Known rule s x z k → i < k → y ≡ z → ⊥
    apart {i = i} a b l e =
        let d = (derives_one rule s (subst (λ (u : Pair). Derives rule s u a.found i a.height) e a.derives) b.derives).1 in
        omega arith

    module _ {A B C D p k : ℕ} (a : Known rule s x (A at p) k) (e : act rule s (A at p) ≡ calls B C D) where
      -- What such a pair calls is one, with fewer steps: first,
      pub first_known : (j : ℕ) × (j < k) × Known rule s x (B at p) j
      first_known =
          let q = parts a.derives e in
          let l = q.fewer in
          (q.steps, omega arith, record { reached = first_of a.reached e; found = q.between; height = q.height; derives = q.first })

      -- and second.
      pub second_known : {t : Result} {i h : ℕ} → Derives rule s (B at p) t i h
          → (j : ℕ) × (j < k) × (r : Known rule s x (second C D p t) j) × (r.found ≡ a.found)
      second_known {t} {i} {h} d =
          let q = parts a.derives e in
          let l = q.fewer in
          let z = (derives_one rule s q.first d).0 in (
            q.more,
            omega arith,
            record {
              reached = of_second a.reached e d;
              found = a.found;
              height = q.higher;
              derives = subst (λ (u : Result). Derives rule s (second C D p u) a.found q.more q.higher) z q.rest;
            },
            refl,
          )

    -- The table tells the result of such a pair.
    module _ (T : List ℕ) (finished : Finished rule s x T) where
      pub tells : {y : Pair} {k : ℕ} (a : Known rule s x y k) → Settled (length s) (held (length s) T y) a.found
      tells {y} {k} a = finished y a.found a.reached (k, a.height, a.derives)

      pub told_one : {y : Pair} {k : ℕ} (a : Known rule s x y k) {t : Result} → Settled (length s) (held (length s) T y) t → a.found ≡ t
      told_one {y} a {t} m = settled_one (length s) (held (length s) T y) a.found t (tells a) m

      pub told_derives : {y : Pair} {k : ℕ} (a : Known rule s x y k) {t : Result} → Settled (length s) (held (length s) T y) t → Derives rule s y t k a.height
      told_derives {y} {k} a m = subst (λ (u : Result). Derives rule s y u k a.height) (told_one a m) a.derives

      -- A pair to go down to is one.
      pub lower_known : {W : List ℕ} {y z : Pair} {k : ℕ} → Known rule s x y k → Lower rule s T W y z → (j : ℕ) × (j < k) × Known rule s x z j
      lower_known a (to_first e b) = first_known a e
      lower_known a (to_second e m b c) =
          let f = first_known a e in
          let g = second_known a e (told_derives f.2 m) in
          (g.0, g.1, g.2)
