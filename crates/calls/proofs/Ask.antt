-- The walk ends within twice as many steps as there are cells, as it should, and its answer is the derivations'. Assumes nothing.
use mathlib.Core.Path.{◌≡◌, refl, ap, subst}
use mathlib.Core.Logic.{inl, ◌↔◌}
use mathlib.Core.List.{List, [], ◌∷◌}
use Prim.Native.Nat.{ℕ, zero, suc, ◌*◌, ◌<◌}
use native.Mathlib.Omega.{arith}
use Rattle.calls.proofs.System.{System, Kind, gives, stuck, calls, Answer, Means}
use Rattle.calls.proofs.Determinism.{means_one}
use Rattle.calls.proofs.Table.{Mark, blank, opened, settled, put, put_puts, cost, weight, weight_le, weight_falls}
use Rattle.calls.proofs.Trail.{Fits, leaf_fits, Link, link_first, link_second}
use Rattle.calls.proofs.Invariant.{Kept, Bounded, Inv, link_calls, open_next, settle_top, both_fits, inv_start, inv_settled}
use Rattle.calls.proofs.Ends.{End, end_value, end_loop, end_halt}
use Rattle.calls.proofs.Walk.{Next, ended, moved, Walked, answer_of, at_second, at_first, at_kind, resume, walk, ask_by, ask}

module _ {A E : Type 0} (σ : System ℕ A E) where
  open σ use {kind, first, second}

  module _ (N : ℕ) (O : ℕ → Mark A) (root : ℕ) where
    abbrev Good : (ℕ → Mark A) → Next A E → Type 0
    Good T (ended o z) = End σ N O root T o z
    Good T (moved U r) = Inv σ N O root U r × (weight U N < weight T N)

    -- What a question gives is an end.
    abbrev pub EndsWell : Walked A E → Type 0
    EndsWell r = End σ N O root r.table r.answer r.name

    module _ (bounded : Bounded σ N) (root_in : root < N) where
      module _ {T : ℕ → Mark A} {x : ℕ} {s : List ℕ} (inv : Inv σ N O root T (x ∷ s)) where
        top_below : x < N
        top_below = inv.below x (inl refl)

        opens_good : {y : ℕ} → Link σ T x y → T y ≡ blank → Good T (moved (put T y opened) (y ∷ x ∷ s))
        unfolding cost
        opens_good {y} l e =
            let p = put_puts T y opened in
            let c = ap cost e in
            (open_next σ N bounded inv l e p, weight_falls N (link_calls σ N bounded inv.sound top_below l).0 p (omega arith))

        settles_good : {a : A} → Fits σ T x a → Good T (moved (put T x (settled a)) s)
        unfolding cost
        settles_good {a} f =
            let p = put_puts T x (settled a) in
            let c = ap cost (inv.on_open x (inl refl)) in
            (settle_top σ N bounded inv f p, weight_falls N top_below p (omega arith))

        second_good : {a : A} (m : Mark A) → kind x ≡ calls → T (first x) ≡ settled a → T (second x a) ≡ m → Good T (at_second σ T x s a m)
        second_good blank q t e = opens_good (link_second q t refl) e
        second_good opened q t e = end_loop σ N bounded root_in inv (link_second q t refl) e
        second_good (settled c) q t e = settles_good (both_fits σ N bounded inv q t e)

        first_good : (m : Mark A) → kind x ≡ calls → T (first x) ≡ m → Good T (at_first σ T x s m)
        first_good blank q e = opens_good (link_first q refl) e
        first_good opened q e = end_loop σ N bounded root_in inv (link_first q refl) e
        first_good (settled a) q e = second_good (T (second x a)) q e refl

        kind_good : (c : Kind A E) → kind x ≡ c → Good T (at_kind σ T x s c)
        kind_good (gives a) q = settles_good (leaf_fits σ q)
        kind_good (stuck e) q = end_halt σ N bounded root_in inv q
        kind_good calls q = first_good (T (first x)) q refl

      -- ---- The walk ends within the table's weight, and as it should.

      ends_empty : {T : ℕ → Mark A} (m : Mark A) → T root ≡ m → Inv σ N O root T [] → End σ N O root T (answer_of m) root
      ends_empty blank e inv = absurd (inv.root_full e)
      ends_empty opened e inv = absurd (inv.open_on root root_in e)
      ends_empty (settled a) e inv = end_value σ N bounded root_in root inv e

      resume_ends : (n : ℕ) (f : (ℕ → Mark A) → List ℕ → Walked A E) (T : ℕ → Mark A) (c : Next A E)
          → ((U : ℕ → Mark A) (r : List ℕ) → Inv σ N O root U r → weight U N < n → EndsWell (f U r)) → weight T N < suc n → Good T c → EndsWell (resume σ f T c)
      resume_ends n f T (ended o z) h l g = g
      resume_ends n f T (moved U r) h l g = h U r g.0 (omega arith)

      -- A walk with more steps than the weight of its table comes to an end.
      pub walk_ends : (n : ℕ) (T : ℕ → Mark A) (s : List ℕ) → Inv σ N O root T s → weight T N < n → EndsWell (walk σ n root T s)
      unfolding walk
      walk_ends zero T s inv l = absurd (omega arith)
      walk_ends (suc n) T [] inv l = ends_empty (T root) refl inv
      walk_ends (suc n) T (x ∷ s) inv l =
          resume_ends n (λ U r. walk σ n root U r) T (at_kind σ T x s (kind x)) (λ U r i h. walk_ends n U r i h) l (kind_good inv (kind x) refl)

      -- ---- The beginning.

      module _ (kept : Kept σ N O) where
        ask_by_ends : (m : Mark A) → O root ≡ m → EndsWell (ask_by σ N O root m)
        unfolding cost
        ask_by_ends blank e =
            let p = put_puts O root opened in
            let c = ap cost e in
            let f = weight_falls N root_in p (omega arith) in
            let w = weight_le O N in
            walk_ends (N * 2) (put O root opened) (root ∷ []) (inv_start σ N root kept root_in e p) (omega arith)
        ask_by_ends opened e = absurd (kept.no_open root root_in e)
        ask_by_ends (settled a) e = end_value σ N bounded root_in root (inv_settled σ N root kept e) e

        -- From any kept table, a question comes to an end.
        pub ask_ends : EndsWell (ask σ N O root)
        unfolding ask
        ask_ends = ask_by_ends (O root) refl

        -- The answer is o exactly where the derivations say o.
        pub ask_decides : (o : Answer A E) → ((ask σ N O root).answer ≡ o) ↔ Means σ root o
        ask_decides o = (λ e. subst (Means σ root) e ask_ends.means, λ m. means_one σ root (ask σ N O root).answer o ask_ends.means m)
