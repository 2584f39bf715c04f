-- What the walk has shown where it ends: with no open pair, at a pair met a second time, at a stuck pair. Assumes nothing.
use mathlib.Core.Bool.{true≢false}
use mathlib.Core.Path.{◌≡◌, refl, sym, subst}
use mathlib.Core.Logic.{inl, inr, ◌≢◌}
use mathlib.Core.List.{List, [], ◌∷◌}
use Prim.Native.Nat.{ℕ, ◌<◌}
use Rattle.calls.proofs.System.{System, stuck, calls, Answer, value, halts, loops, Done, NotDone, Halt, stop, Loop, Means}
use Rattle.calls.proofs.Determinism.{done_one, halt_not_done}
use Rattle.calls.proofs.Chain.{chain_loops, halt_up}
use Rattle.calls.proofs.Reach.{Reach, itself, reach_first, reach_second}
use Rattle.calls.proofs.Follow.{In, Waits, for_first, for_second, Follow, again, stops, onward, Named}
use Rattle.calls.proofs.Table.{Mark, blank, opened, settled}
use Rattle.calls.proofs.Trail.{Grows, Link, link_first, link_second, Trail, start, push, trail_fresh, trail_root, trail_link}
use Rattle.calls.proofs.Invariant.{Sound, Bounded, KeptOrReached, Inv, link_calls}

module _ {A E : Type 0} (σ : System ℕ A E) where
  open σ use {kind, first, second}

  -- What an open pair is, by the answer at the end.
  abbrev pub Stays : Answer A E → ℕ → Type 0
  Stays (value a) x = ⊥
  Stays (halts e) x = Halt σ e x
  Stays loops x = Loop σ x

  module _ (N : ℕ) where
    -- The end of a question about root, over the table O, with the table T, the answer o and the named pair z.
    pub record End (O : ℕ → Mark A) (root : ℕ) (T : ℕ → Mark A) (o : Answer A E) (z : ℕ) : Type 0 where
      pub means : Means σ root o
      pub named : Named σ o root z
      pub sound : Sound σ N T
      pub keeps : Grows O T
      pub opens : (x : ℕ) → x < N → T x ≡ opened → Stays o x
      pub only : (x : ℕ) → x < N → T x ≢ blank → KeptOrReached σ N O root x
      pub found : (x : ℕ) → Reach σ root x → (x < N) × (T x ≢ blank)

    -- The waiting along the trail.
    link_waits : {T : ℕ → Mark A} {x y : ℕ} → Bounded σ N → Sound σ N T → x < N → NotDone σ y → Link σ T x y → Waits σ x y
    link_waits b s l n (link_first q r) = for_first q (subst (NotDone σ) r n) r
    link_waits {x = x} b s l n (link_second {a = a} q t r) = for_second q (s (first x) a (b.first_in_law x l q) t).right.2 r

    module _ {O T : ℕ → Mark A} {root : ℕ} {s : List ℕ} (bounded : Bounded σ N) (inv : Inv σ N O root T s) where
      -- From here on back to root.
      trail_follow : {x : ℕ} {r : List ℕ} {o : Answer A E} {z : ℕ} → ((y : ℕ) → In y (x ∷ r) → (y < N) × NotDone σ y)
          → Trail σ T root (x ∷ r) → Follow σ r x o z → Follow σ [] root o z
      trail_follow n start f = f
      trail_follow n (push {x = x} {y = y} t m l) f =
          trail_follow (λ w i. n w (inr i)) t (onward (trail_fresh σ t) (link_waits bounded inv.sound (n x (inr (inl refl))).0 (n y (inl refl)).1 l) f)

      trail_halts : {e : E} {x z : ℕ} {r : List ℕ} → ((y : ℕ) → In y (x ∷ r) → y < N) → Trail σ T root (x ∷ r) → Halt σ e x → In z (x ∷ r) → Halt σ e z
      trail_halts {e = e} n start h (inl q) = subst (Halt σ e) (sym q) h
      trail_halts n start h (inr i) = absurd i
      trail_halts {e = e} n (push t m l) h (inl q) = subst (Halt σ e) (sym q) h
      trail_halts n (push {x = x} t m l) h (inr i) =
          trail_halts (λ w j. n w (inr j)) t (halt_up σ (link_calls σ N bounded inv.sound (n x (inr (inl refl))) l).1 h) i

      -- Where each open pair has no value, and calls an open pair if it calls at all, the pairs reached are those that are not blank.
      module _ (stays : (x : ℕ) → In x s → NotDone σ x) (stalled : (x : ℕ) → In x s → kind x ≡ calls → (y : ℕ) × In y s × Link σ T x y) where
        link_first_full : {x y : ℕ} → In y s → Link σ T x y → T (first x) ≢ blank
        link_first_full {y = y} i (link_first q r) b = let o = inv.on_open y i in true≢false (cc)
        link_first_full i (link_second q t r) b = true≢false (cc)

        link_second_full : {x y : ℕ} {a : A} {k h : ℕ} → x < N → In y s → Link σ T x y → Done σ (first x) a k h → T (second x a) ≢ blank
        link_second_full {y = y} {a = a} {k = k} {h = h} l i (link_first q r) d = absurd (subst (NotDone σ) r (stays y i) a k h d)
        link_second_full {x = x} {y = y} l i (link_second {a = c} q t r) d =
            λ b. let o = inv.on_open y i in
            let e = (done_one σ (inv.sound (first x) c (bounded.first_in_law x l q) t).right.2 d).0 in
            true≢false (cc)

        full_first : (x : ℕ) (m : Mark A) → T x ≡ m → x < N → T x ≢ blank → kind x ≡ calls → T (first x) ≢ blank
        full_first x blank e l f q = absurd (f e)
        full_first x opened e l f q =
            let y = stalled x (inv.open_on x l e) q in
            link_first_full y.1 y.2
        full_first x (settled c) e l f q =
            λ b. let t = ((inv.sound x c l e).closed q).2 in
            true≢false (cc)

        full_second : {a : A} {k h : ℕ} (x : ℕ) (m : Mark A) → T x ≡ m → x < N → T x ≢ blank → kind x ≡ calls → Done σ (first x) a k h → T (second x a) ≢ blank
        full_second x blank e l f q d = absurd (f e)
        full_second x opened e l f q d =
            let y = stalled x (inv.open_on x l e) q in
            link_second_full l y.1 y.2 d
        full_second x (settled c) e l f q d =
            λ b. let both = (inv.sound x c l e).closed q in
            let u = (done_one σ (inv.sound (first x) both.0 (bounded.first_in_law x l q) both.2).right.2 d).0 in
            let t = both.3 in
            true≢false (cc)

        reach_full : {x : ℕ} → root < N → Reach σ root x → (x < N) × (T x ≢ blank)
        reach_full l itself = (l, inv.root_full)
        reach_full l (reach_first {x = x} r q) =
            let i = reach_full l r in
            (bounded.first_in_law x i.0 q, full_first x (T x) refl i.0 i.1 q)
        reach_full l (reach_second {x = x} {a = a} {k = k} {h = h} r q d) =
            let i = reach_full l r in
            (bounded.second_in_law x a i.0 q (k, h, d), full_second x (T x) refl i.0 i.1 q d)

    -- ---- The three ends.

    module _ {O T : ℕ → Mark A} {root : ℕ} (bounded : Bounded σ N) (root_in : root < N) where
      -- No open pair is left.
      pub end_value : {a : A} (z : ℕ) → Inv σ N O root T [] → T root ≡ settled a → End O root T (value a) z
      end_value {a} z inv e = record {
        means = (inv.sound root a root_in e).right;
        named = tt;
        sound = inv.sound;
        keeps = inv.keeps;
        opens = inv.open_on;
        only = inv.only;
        found = λ x. reach_full bounded inv (λ y i. absurd i) (λ y i. absurd i) root_in;
      }

      module _ {x : ℕ} {s : List ℕ} (inv : Inv σ N O root T (x ∷ s)) where
        -- The top calls an open pair.
        module _ {y : ℕ} (l : Link σ T x y) (o : T y ≡ opened) where
          again_in : In y (x ∷ s)
          again_in = inv.open_on y (link_calls σ N bounded inv.sound (inv.below x (inl refl)) l).0 o

          round : (z : ℕ) → In z (x ∷ s) → (w : ℕ) × In w (x ∷ s) × Link σ T z w
          round z (inl r) = (y, again_in, subst (λ (u : ℕ). Link σ T u y) (sym r) l)
          round z (inr i) = trail_link σ inv.trail i

          round_loops : (z : ℕ) → In z (x ∷ s) → Loop σ z
          round_loops z = chain_loops σ (λ u. In u (x ∷ s)) (λ u i.
              let w = round u i in
              (w.0, (link_calls σ N bounded inv.sound (inv.below u i) w.2).1, w.1))

          round_not_done : (z : ℕ) → In z (x ∷ s) → NotDone σ z
          round_not_done z i = (round_loops z i).not_done

          -- The question loops, and names the open pair.
          pub end_loop : End O root T loops y
          end_loop = record {
            means = round_loops root (trail_root σ inv.trail);
            named =
                trail_follow bounded inv (λ w i. (inv.below w i, round_not_done w i)) inv.trail
                (onward (trail_fresh σ inv.trail)
                (link_waits bounded inv.sound (inv.below x (inl refl)) (round_not_done y again_in) l) (again again_in));
            sound = inv.sound;
            keeps = inv.keeps;
            opens = λ z k h. round_loops z (inv.open_on z k h);
            only = inv.only;
            found = λ z. reach_full bounded inv round_not_done (λ u i q. round u i) root_in;
          }

        -- The top is stuck.
        module _ {e : E} (k : kind x ≡ stuck e) where
          all_halt : (z : ℕ) → In z (x ∷ s) → Halt σ e z
          all_halt z i = trail_halts bounded inv inv.below inv.trail (stop k) i

          halt_not : (z : ℕ) → In z (x ∷ s) → NotDone σ z
          halt_not z i a l h d = halt_not_done σ refl (all_halt z i) d

          halt_on : (z : ℕ) → In z (x ∷ s) → kind z ≡ calls → (w : ℕ) × In w (x ∷ s) × Link σ T z w
          halt_on z (inl r) q = absurd (true≢false (cc))
          halt_on z (inr i) q = trail_link σ inv.trail i

          -- The question halts, and names the top.
          pub end_halt : End O root T (halts e) x
          end_halt = record {
            means = all_halt root (trail_root σ inv.trail);
            named = trail_follow bounded inv (λ w i. (inv.below w i, halt_not w i)) inv.trail (stops (trail_fresh σ inv.trail) k);
            sound = inv.sound;
            keeps = inv.keeps;
            opens = λ z l h. all_halt z (inv.open_on z l h);
            only = inv.only;
            found = λ z. reach_full bounded inv halt_not halt_on root_in;
          }
