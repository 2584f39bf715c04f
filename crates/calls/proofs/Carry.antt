-- One system within another: on a set of pairs that its calls do not leave, the second does as the first, under other names. Then answers, reached
-- pairs and named pairs carry over. (A byte appended, a byte corrected left of the set, a table stored in another order.) Assumes nothing.
use mathlib.Core.Path.{◌≡◌, refl, sym, ap, ◌∙◌, subst}
use mathlib.Core.Logic.{inl, inr, ◌↔◌}
use mathlib.Core.List.{List, [], ◌∷◌, map}
use Prim.Native.Nat.{ℕ, ◌+◌, max}
use Rattle.calls.proofs.System.{System, calls, Answer, value, halts, loops, Done, leaf, node, Halt, stop, by_first, by_second, Means}
use Rattle.calls.proofs.Reach.{Reach, itself, reach_first, reach_second}
use Rattle.calls.proofs.Follow.{In, Waits, for_first, for_second, Follow, again, stops, onward}

module _ {X Y A E : Type 0} (σ : System X A E) (τ : System Y A E) (f : X → Y) (R : X → Type 0) where
  -- On R, τ does under the name f x as σ does with x.
  pub record Agree : Type 0 where
    pub kinds : (x : X) → R x → τ.kind (f x) ≡ σ.kind x
    pub firsts : (x : X) → R x → σ.kind x ≡ calls → (τ.first (f x) ≡ f (σ.first x)) × R (σ.first x)
    pub seconds : (x : X) (a : A) → R x → σ.kind x ≡ calls → Means σ (σ.first x) (value a) → (τ.second (f x) a ≡ f (σ.second x a)) × R (σ.second x a)
    pub joins : (x : X) (a c : A) → R x → τ.join (f x) a c ≡ σ.join x a c

  module _ (agree : Agree) where
    -- ---- Derivations, both ways.

    -- A derivation of σ is one of τ,
    pub done_over : {x : X} {a : A} {k h : ℕ} → R x → Done σ x a k h → Done τ (f x) a k h
    done_over {x} r (leaf p) = leaf (agree.kinds x r ∙ p)
    done_over r (node {x = x} {a = a} {c = c} {k = k} {l = l} {g = g} {h = h} q d e) =
        let u = agree.firsts x r q in
        let v = agree.seconds x a r q (k, g, d) in
        subst (λ (b : A). Done τ (f x) b (k + l + 1) (max g h + 1)) (agree.joins x a c r)
        (node (agree.kinds x r ∙ q)
        (subst (λ (y : Y). Done τ y a k g) (sym u.0) (done_over u.1 d))
        (subst (λ (y : Y). Done τ y c l h) (sym v.0) (done_over v.1 e)))

    first_over : {x : X} {a : A} {k h : ℕ} → R x → σ.kind x ≡ calls → Done σ (σ.first x) a k h → Done τ (τ.first (f x)) a k h
    first_over {x} {a} {k} {h} r q d =
        let u = agree.firsts x r q in
        subst (λ (y : Y). Done τ y a k h) (sym u.0) (done_over u.1 d)

    kind_back : {x : X} {y : Y} → R x → y ≡ f x → τ.kind y ≡ σ.kind x
    kind_back {x} r s = ap τ.kind s ∙ agree.kinds x r

    -- and back.
    pub done_back : {x : X} {y : Y} {a : A} {k h : ℕ} → R x → y ≡ f x → Done τ y a k h → Done σ x a k h
    done_back {x = x} r s (leaf p) = leaf (sym (kind_back r s) ∙ p)
    done_back {x = x} r s (node {a = a} {c = c} {k = k} {l = l} {g = g} {h = h} q d e) =
        let q' = sym (kind_back r s) ∙ q in
        let u = agree.firsts x r q' in
        let d' = done_back {x = σ.first x} u.1 (ap τ.first s ∙ u.0) d in
        let v = agree.seconds x a r q' (k, g, d') in
        let e' = done_back {x = σ.second x a} v.1 (ap (λ (w : Y). τ.second w a) s ∙ v.0) e in
        subst (λ (b : A). Done σ x b (k + l + 1) (max g h + 1)) (sym (ap (λ (w : Y). τ.join w a c) s ∙ agree.joins x a c r)) (node q' d' e')

    halt_over : {e : E} {x : X} → R x → Halt σ e x → Halt τ e (f x)
    halt_over {x = x} r (stop p) = stop (agree.kinds x r ∙ p)
    halt_over {e = e} {x = x} r (by_first q i) =
        let u = agree.firsts x r q in
        by_first (agree.kinds x r ∙ q) (subst (Halt τ e) (sym u.0) (halt_over u.1 i))
    halt_over {e = e} {x = x} r (by_second {a = a} {k = k} {h = h} q d i) =
        let v = agree.seconds x a r q (k, h, d) in
        by_second (agree.kinds x r ∙ q) (first_over r q d) (subst (Halt τ e) (sym v.0) (halt_over v.1 i))

    halt_back : {e : E} {x : X} {y : Y} → R x → y ≡ f x → Halt τ e y → Halt σ e x
    halt_back {x = x} r s (stop p) = stop (sym (kind_back r s) ∙ p)
    halt_back {x = x} r s (by_first q i) =
        let q' = sym (kind_back r s) ∙ q in
        let u = agree.firsts x r q' in
        by_first q' (halt_back {x = σ.first x} u.1 (ap τ.first s ∙ u.0) i)
    halt_back {x = x} r s (by_second {a = a} {k = k} {h = h} q d i) =
        let q' = sym (kind_back r s) ∙ q in
        let u = agree.firsts x r q' in
        let d' = done_back {x = σ.first x} u.1 (ap τ.first s ∙ u.0) d in
        let v = agree.seconds x a r q' (k, h, d') in
        by_second q' d' (halt_back {x = σ.second x a} v.1 (ap (λ (w : Y). τ.second w a) s ∙ v.0) i)

    -- Every answer carries over, and back.
    pub means_iff : (x : X) (o : Answer A E) → R x → Means σ x o ↔ Means τ (f x) o
    means_iff x (value a) r = (λ m. (m.0, m.1, done_over r m.2), λ m. (m.0, m.1, done_back r refl m.2))
    means_iff x (halts e) r = (halt_over r, halt_back r refl)
    means_iff x loops r = (
      λ m. record { not_done = λ a k h d. m.not_done a k h (done_back r refl d); not_halt = λ e i. m.not_halt e (halt_back r refl i) },
      λ m. record { not_done = λ a k h d. m.not_done a k h (done_over r d); not_halt = λ e i. m.not_halt e (halt_over r i) },
    )

    -- ---- So do the pairs reached.

    -- What is reached stays in R, and is reached under its other name.
    pub reach_over : {root x : X} → R root → Reach σ root x → R x × Reach τ (f root) (f x)
    reach_over r itself = (r, itself)
    reach_over {root = root} r (reach_first {x = x} p q) =
        let i = reach_over r p in
        let u = agree.firsts x i.0 q in
        (u.1, subst (Reach τ (f root)) u.0 (reach_first i.1 (agree.kinds x i.0 ∙ q)))
    reach_over {root = root} r (reach_second {x = x} {a = a} {k = k} {h = h} p q d) =
        let i = reach_over r p in
        let v = agree.seconds x a i.0 q (k, h, d) in
        (v.1, subst (Reach τ (f root)) v.0 (reach_second i.1 (agree.kinds x i.0 ∙ q) (first_over i.0 q d)))

    -- What is reached under other names is named by f.
    pub reach_back : {root : X} {y : Y} → R root → Reach τ (f root) y → (x : X) × (y ≡ f x) × R x × Reach σ root x
    reach_back {root = root} r itself = (root, refl, r, itself)
    reach_back r (reach_first {x = y} p q) =
        let i = reach_back r p in
        let q' = sym (kind_back i.2 i.1) ∙ q in
        let u = agree.firsts i.0 i.2 q' in
        (σ.first i.0, ap τ.first i.1 ∙ u.0, u.1, reach_first i.3 q')
    reach_back r (reach_second {x = y} {a = a} {k = k} {h = h} p q d) =
        let i = reach_back r p in
        let q' = sym (kind_back i.2 i.1) ∙ q in
        let u = agree.firsts i.0 i.2 q' in
        let d' = done_back u.1 (ap τ.first i.1 ∙ u.0) d in
        let v = agree.seconds i.0 a i.2 q' (k, h, d') in
        (σ.second i.0 a, ap (λ (w : Y). τ.second w a) i.1 ∙ v.0, v.1, reach_second i.3 q' d')

    -- ---- And so does the named pair, where no two names become one.

    module _ (apart : (x y : X) → R x → R y → f x ≡ f y → x ≡ y) where
      in_over : (x : X) (s : List X) → In x s → In (f x) (map f s)
      in_over x [] i = absurd i
      in_over x (y ∷ s) (inl e) = inl (ap f e)
      in_over x (y ∷ s) (inr i) = inr (in_over x s i)

      in_back : (x : X) (s : List X) → R x → ((y : X) → In y s → R y) → In (f x) (map f s) → In x s
      in_back x [] r t i = absurd i
      in_back x (y ∷ s) r t (inl e) = inl (apart x y r (t y (inl refl)) e)
      in_back x (y ∷ s) r t (inr i) = inr (in_back x s r (λ z j. t z (inr j)) i)

      waits_over : {x y : X} → R x → Waits σ x y → R y × Waits τ (f x) (f y)
      waits_over {x = x} r (for_first q n e) =
          let u = agree.firsts x r q in
          (subst R (sym e) u.1, for_first (agree.kinds x r ∙ q) (λ a k h d. n a k h (done_back u.1 u.0 d)) (ap f e ∙ sym u.0))
      waits_over {x = x} r (for_second {a = a} {k = k} {h = h} q d e) =
          let v = agree.seconds x a r q (k, h, d) in
          (subst R (sym e) v.1, for_second (agree.kinds x r ∙ q) (first_over r q d) (ap f e ∙ sym v.0))

      with_top : (x : X) (s : List X) → R x → ((y : X) → In y s → R y) → (y : X) → In y (x ∷ s) → R y
      with_top x s r t y (inl e) = subst R (sym e) r
      with_top x s r t y (inr i) = t y i

      -- Following the waiting comes to the same pair.
      pub follow_over : {s : List X} {x z : X} {o : Answer A E} → ((y : X) → In y s → R y) → R x → Follow σ s x o z → Follow τ (map f s) (f x) o (f z)
      follow_over {s = s} {x = x} t r (again i) = again (in_over x s i)
      follow_over {s = s} {x = x} t r (stops n k) = stops (λ i. n (in_back x s r t i)) (agree.kinds x r ∙ k)
      follow_over {s = s} {x = x} t r (onward n w p) =
          let v = waits_over r w in
          onward (λ i. n (in_back x s r t i)) v.1 (follow_over (with_top x s r t) v.0 p)
