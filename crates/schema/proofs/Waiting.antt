-- The pairs reached, and the waiting, are those of the system of calls. Assumes nothing.
use mathlib.Core.List.{List}
use mathlib.Core.Path.{◌≡◌, refl, sym, ap, ◌∙◌, subst}
use Prim.Native.Nat.{ℕ}
use Rattle.calls.proofs.Determinism.{halt_not_done}
use Rattle.calls.proofs.System as theory
use Rattle.calls.proofs.System.{Answer, value, halts, loops, Done, NotDone, Means}
use Rattle.calls.proofs.Reach as reach
use Rattle.calls.proofs.Reach.{Reach}
use Rattle.calls.proofs.Follow as following
use Rattle.calls.proofs.Follow.{mem_in, in_mem}
use Rattle.grammar.specs.Rule.{Rule}
use Rattle.schema.specs.Derivation.{Pair, ◌at◌, Result, Stop, calls, act, second, Derives, node, NoResult, Outcome}
use Rattle.schema.specs.Reached.{Reached, itself, first_of, of_second, Waits, for_first, for_second, Follow, again, ends, onward, Named}
use Rattle.schema.proofs.System.{kind_of, gts, kind_stuck, kind_calls, outcome_of, answer_of, first_is, second_is, to_done, from_done}

-- The pair that an answer names; a value names none.
abbrev pub named_of : Answer Result Stop → Pair → Pair
named_of (value r) z = 0 at 0
named_of (halts w) z = z
named_of loops z = z

module _ (rule : ℕ → Rule) (s : List ℕ) where
  -- ---- The pairs reached.

  -- What is reached is reached in the system,
  pub to_reach : {x y : Pair} → Reached rule s x y → Reach (gts rule s) x y
  unfolding gts
  to_reach itself = reach.itself
  to_reach {x = x} (first_of {A} {B} {C} {D} {p} r e) =
      subst (Reach (gts rule s) x) (first_is rule s A p e) (reach.reach_first (to_reach r) (ap kind_of e))
  to_reach {x = x} (of_second {A} {B} {C} {D} {p} {k} {h} {t} r e d) =
      subst (Reach (gts rule s) x) (second_is rule s A p e t)
      (reach.reach_second (to_reach r) (ap kind_of e)
      (subst (λ (y : Pair). Done (gts rule s) y t k h) (sym (first_is rule s A p e)) (to_done rule s d)))

  module _ (x : Pair) where
    reach_first_at : (y : Pair) → (gts rule s).kind y ≡ theory.Kind.calls → Reached rule s x y → Reached rule s x ((gts rule s).first y)
    unfolding gts
    reach_first_at (A at p) q r =
        let c = kind_calls (act rule s (A at p)) q in
        subst (Reached rule s x) (sym (first_is rule s A p c.3)) (first_of r c.3)

    reach_second_at : {t : Result} {k h : ℕ} (y : Pair) → (gts rule s).kind y ≡ theory.Kind.calls → Done (gts rule s) ((gts rule s).first y) t k h
        → Reached rule s x y → Reached rule s x ((gts rule s).second y t)
    unfolding gts
    reach_second_at {t} {k} {h} (A at p) q d r =
        let c = kind_calls (act rule s (A at p)) q in
        let d₁ = subst (λ (y : Pair). Derives rule s y t k h) (first_is rule s A p c.3) (from_done rule s d) in
        subst (Reached rule s x) (sym (second_is rule s A p c.3 t)) (of_second r c.3 d₁)

    -- and back.
    pub from_reach : {y : Pair} → Reach (gts rule s) x y → Reached rule s x y
    from_reach reach.itself = itself
    from_reach (reach.reach_first {x = y} r q) = reach_first_at y q (from_reach r)
    from_reach (reach.reach_second {x = y} r q d) = reach_second_at y q d (from_reach r)

  -- ---- The waiting.

  to_waits : {x y : Pair} → Waits rule s x y → following.Waits (gts rule s) x y
  unfolding gts
  to_waits (for_first {A} {B} {C} {D} {p} n e m) =
      let f = sym (first_is rule s A p e) in
      following.for_first (ap kind_of e) (subst (NotDone (gts rule s)) f (λ r k h d. m r k h (from_done rule s d))) f
  to_waits (for_second {A} {B} {C} {D} {p} {k} {h} {t} n e d) =
      following.for_second (ap kind_of e) (subst (λ (y : Pair). Done (gts rule s) y t k h) (sym (first_is rule s A p e)) (to_done rule s d))
      (sym (second_is rule s A p e t))

  -- Following the waiting comes to the same pair in the system.
  pub to_follow : {met : List Pair} {x z : Pair} {o : Outcome} → Follow rule s met x o z → following.Follow (gts rule s) met x (answer_of o) z
  unfolding gts
  to_follow {met = met} {x = x} (again m) = following.again (mem_in x met m)
  to_follow {met = met} {x = x} (ends n e) = following.stops (λ m. n (in_mem x met m)) (ap kind_of e)
  to_follow {met = met} {x = x} (onward n w f) = following.onward (λ m. n (in_mem x met m)) (to_waits w) (to_follow f)

  -- From a pair without a result the waiting comes to another one.
  abbrev Waiting : Pair → Pair → Type 0
  Waiting x y = Waits rule s x y × NoResult rule s y

  waiting_at : (x y : Pair) → NoResult rule s x → following.Waits (gts rule s) x y → Waiting x y
  unfolding gts
  waiting_at (A at p) y n (following.for_first q m r) =
      let c = kind_calls (act rule s (A at p)) q in
      let f = r ∙ first_is rule s A p c.3 in
      let none : NoResult rule s (c.0 at p) =
      subst (NoResult rule s) (first_is rule s A p c.3) (λ t k h d. m t k h (to_done rule s d)) in
      subst (Waiting (A at p)) (sym f) (for_first n c.3 none, none)
  waiting_at (A at p) y n (following.for_second {a = t} {k = k} {h = h} q d r) =
      let c = kind_calls (act rule s (A at p)) q in
      let d₁ = subst (λ (x : Pair). Derives rule s x t k h) (first_is rule s A p c.3) (from_done rule s d) in
      subst (Waiting (A at p)) (sym (r ∙ second_is rule s A p c.3 t))
      (for_second n c.3 d₁, λ u l g d₂. n u _ _ (node c.3 d₁ d₂))

  from_follow : {met : List Pair} {x z : Pair} {a : Answer Result Stop} → NoResult rule s x → following.Follow (gts rule s) met x a z
      → Follow rule s met x (outcome_of a) z
  unfolding gts
  from_follow n (following.again {met = met} {x = x} m) = again (in_mem x met m)
  from_follow n (following.stops {met = met} {x = x} {e = w} m q) = ends (λ k. m (mem_in x met k)) (kind_stuck (act rule s x) w q)
  from_follow n (following.onward {met = met} {x = x} {y = y} m v f) =
      let w = waiting_at x y n v in
      onward (λ k. m (mem_in x met k)) w.0 (from_follow w.1 f)

  -- The pair that the system names is the one that the outcome names.
  pub from_named : (x z : Pair) (a : Answer Result Stop) → Means (gts rule s) x a → following.Named (gts rule s) a x z
      → Named rule s x (outcome_of a) (named_of a z)
  from_named x z (value r) m n = refl
  from_named x z (halts w) m n = from_follow (λ r k h d. halt_not_done (gts rule s) refl m (to_done rule s d)) n
  from_named x z loops m n = from_follow (λ r k h d. m.not_done r k h (to_done rule s d)) n
