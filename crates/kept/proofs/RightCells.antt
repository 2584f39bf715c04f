-- What is so of every kept table: each cell is blank, both numbers 0, or holds its pair's outcome and reach, and what a pair with a result calls has its
-- result in it too. Assumes nothing.
use mathlib.Core.Bool.{Bool, true, false, cond, not, ◌&&◌, ◌||◌, true≢false}
use mathlib.Core.List.{List}
use mathlib.Core.Logic.{◌⊎◌, inl, inr, ◌≢◌}
use mathlib.Core.Path.{◌≡◌, refl, sym, ap, ◌∙◌, subst}
use Prim.Native.Nat.{ℕ, ◌+◌, ◌≤◌, ◌<◌}
use native.Mathlib.Decide.{ℕ_discrete}
use native.Mathlib.Omega.{arith}
use lib.Dec.{ltb}
use lib.ListN.{length}
use borrow.Author.Tests.{ne_eqb, ltb-true, ltb-false, lt-ltb, le-ltb}
use Rattle.grammar.specs.Rule.{Rule}
use Rattle.schema.specs.Closed.{Closed}
use Rattle.schema.specs.Derivation.{Pair, ◌at◌, Result, success, failure, missing, calls, act, second, Outcome, result, stopped, loop, Has}
use Rattle.schema.specs.Examined.{Examines, node, Reaches}
use Rattle.schema.specs.Reached.{Reached, first_of, of_second}
use Rattle.schema.specs.Table.{Within, code, held, reach, contents, Holds, Table}
use Rattle.schema.proofs.Cell.{PairWithin}
use Rattle.schema.proofs.Closed.{calls_call, second_within}
use Rattle.schema.proofs.Codes.{code_full}
use Rattle.schema.proofs.Ends.{position_of, ends_in, derives_ends}
use Rattle.schema.proofs.Examined.{examines_derives, examines_one, call_act}
use Rattle.schema.proofs.Laws.{has_one}
use Rattle.schema.proofs.Parts.{parts}
use Rattle.kept.specs.Differs.{DiffersAt}
use Rattle.kept.specs.Kept.{is_result, stays, retained, KeptTable, blank, asked, further, corrected}
use Rattle.kept.proofs.Corrected.{Right, right_second, right_has, right_reaches, examined_before}

-- The code of a result is that of no other outcome.
result_code : (o : Outcome) (r : Result) → code o ≡ code (result r) → o ≡ result r
result_code (result (success q)) (success e) h = let z : q ≡ e = omega arith in ap (λ (u : ℕ). result (success u)) z
result_code (result (success q)) failure h = absurd (omega arith)
result_code (result failure) (success e) h = absurd (omega arith)
result_code (result failure) failure h = refl
result_code (stopped missing) (success e) h = absurd (omega arith)
result_code (stopped missing) failure h = absurd (omega arith)
result_code loop (success e) h = absurd (omega arith)
result_code loop failure h = absurd (omega arith)

-- A number that is a result's.
is_result_law : (o : Outcome) → is_result (code o) ≡ true → (r : Result) × (o ≡ result r)
is_result_law (result r) e = (r, refl)
is_result_law (stopped missing) e = absurd (true≢false (sym e))
is_result_law loop e = absurd (true≢false (sym e))

-- What is blank where it stays, and blanked where it does not, is blank.
kept_blank : (b : Bool) (k : ℕ × ℕ) → (k.0 ≡ 0 → k.1 ≡ 0) → (cond b k (0, 0)).0 ≡ 0 → (cond b k (0, 0)).1 ≡ 0
kept_blank true k h e = h e
kept_blank false k h e = refl

or_true : (b : Bool) → (b || true) ≡ true
or_true true = refl
or_true false = refl

module _ (rule : ℕ → Rule) (v : ℕ) where
  -- Cells H that are right.
  pub record RightCells (s : List ℕ) (H : Pair → ℕ × ℕ) : Type 0 where
    pub right : (A p : ℕ) → Within v (length s) A p → (H (A at p)).0 ≢ 0
        → (o : Outcome) × Has rule s (A at p) o × ((H (A at p)).0 ≡ code o) × Reaches rule s (A at p) o (H (A at p)).1
    pub whole : (A B C D p : ℕ) (r : Result) → Within v (length s) A p → (H (A at p)).0 ≡ code (result r) → act rule s (A at p) ≡ calls B C D
        → (t : Result) × ((H (B at p)).0 ≡ code (result t)) × ((H (second C D p t)).0 ≡ code (result r))
    pub blank : (A p : ℕ) → Within v (length s) A p → (H (A at p)).0 ≡ 0 → (H (A at p)).1 ≡ 0

  module _ (closed : Closed v rule) where
    module _ (s : List ℕ) where
      -- The result that a right cell holds, with its reach.
      pub held_reaches : {H : Pair → ℕ × ℕ} (y : Pair) (r : Result) → RightCells s H → PairWithin v (length s) y → (H y).0 ≡ code (result r)
          → Has rule s y (result r) × Examines rule s y r (H y).1
      held_reaches {H} (A at p) r h w e =
          let k = h.right A p w (λ z. code_full (result r) (sym e ∙ z)) in
          let q = result_code k.0 r (sym k.2 ∙ e) in
          (subst (Has rule s (A at p)) q k.1, subst (λ (o : Outcome). Reaches rule s (A at p) o (H (A at p)).1) q k.3)

      pub held_has : {H : Pair → ℕ × ℕ} (y : Pair) (r : Result) → RightCells s H → PairWithin v (length s) y → (H y).0 ≡ code (result r) → Has rule s y (result r)
      held_has y r h w e = (held_reaches y r h w e).0

      module _ {A B C D p : ℕ} (w : Within v (length s) A p) (a : act rule s (A at p) ≡ calls B C D) where
        -- What a pair calls is within.
        pub first_in_law : Within v (length s) B p
        first_in_law = record { variable = (closed A B C D (calls_call (rule A) s p B C D a)).0; position = w.position }

        pub second_in_law : (t : Result) → Has rule s (B at p) (result t) → PairWithin v (length s) (second C D p t)
        second_in_law t h =
            let c = closed A B C D (calls_call (rule A) s p B C D a) in
            second_within v (length s) C D p t c.1 c.2 w.position (ends_in p (length s) t (derives_ends rule s w.position h.2))

      -- Blank cells are right,
      blank_right : {H : Pair → ℕ × ℕ} → ((A p : ℕ) → Within v (length s) A p → H (A at p) ≡ (0, 0)) → RightCells s H
      blank_right z = record {
        right = λ A p w d. absurd (d (ap (λ (k : ℕ × ℕ). k.0) (z A p w)));
        whole = λ A B C D p r w e a. absurd (code_full (result r) (sym e ∙ ap (λ (k : ℕ × ℕ). k.0) (z A p w)));
        blank = λ A p w e. ap (λ (k : ℕ × ℕ). k.1) (z A p w);
      }

      -- and so are cells that hold what right ones hold.
      pub right_same : {H K : Pair → ℕ × ℕ} → ((y : Pair) → PairWithin v (length s) y → ((K y).0 ≡ (H y).0) × ((K y).1 ≡ (H y).1)) → RightCells s H → RightCells s K
      right_same same h = record {
        right = λ A p w n.
            let e = same (A at p) w in
            let k = h.right A p w (λ z. n (e.0 ∙ z)) in
            (k.0, k.1, e.0 ∙ k.2, subst (Reaches rule s (A at p) k.0) (sym e.1) k.3);
        whole = λ A B C D p r w e a.
            let k = h.whole A B C D p r w (sym (same (A at p) w).0 ∙ e) a in
            let b = first_in_law w a in
            let i = second_in_law w a k.0 (held_has (B at p) k.0 h b k.1) in
            (k.0, (same (B at p) b).0 ∙ k.1, (same (second C D p k.0) i).0 ∙ k.2);
        blank = λ A p w z. let e = same (A at p) w in e.1 ∙ h.blank A p w (sym e.0 ∙ z);
      }

      -- ---- A question over right cells leaves right cells.

      module _ {x : Pair} {start : Pair → ℕ × ℕ} {O T : List ℕ} (before : RightCells s start) (leaves : Table rule s v x start O T) where
        -- A cell that is not as before is that of a reached pair.
        right_after : (A p : ℕ) → Within v (length s) A p → held (length s) T (A at p) ≢ 0 → Holds rule s T (A at p)
        right_after A p w n = elim (ℕ_discrete (held (length s) T (A at p)) (start (A at p)).0) [
          | yes f ↦ elim (ℕ_discrete (reach (length s) T (A at p)) (start (A at p)).1) [
            | yes g ↦ let k = before.right A p w (λ z. n (f ∙ z)) in (k.0, k.1, f ∙ k.2, subst (Reaches rule s (A at p) k.0) (sym g) k.3)
            | no d ↦ leaves.holds (A at p) (leaves.others_reach A p w d)
          ]
          | no d ↦ leaves.holds (A at p) (leaves.others A p w d)
        ]

        reached_result : (y : Pair) (r : Result) → Reached rule s x y → Has rule s y (result r) → held (length s) T y ≡ code (result r)
        reached_result y r i h = let k = leaves.holds y i in k.2 ∙ ap code (has_one rule s y k.0 (result r) k.1 h)

        -- A cell that held a result holds it still.
        keeps : (y : Pair) (r : Result) → PairWithin v (length s) y → (start y).0 ≡ code (result r) → held (length s) T y ≡ code (result r)
        keeps (A at p) r w e = elim (ℕ_discrete (held (length s) T (A at p)) (start (A at p)).0) [
          | yes f ↦ f ∙ e
          | no d ↦ reached_result (A at p) r (leaves.others A p w d) (held_has (A at p) r before w e)
        ]

        whole_after : (A B C D p : ℕ) (r : Result) → Within v (length s) A p → held (length s) T (A at p) ≡ code (result r) → act rule s (A at p) ≡ calls B C D
            → (t : Result) × (held (length s) T (B at p) ≡ code (result t)) × (held (length s) T (second C D p t) ≡ code (result r))
        whole_after A B C D p r w e a = elim (ℕ_discrete (held (length s) T (A at p)) (start (A at p)).0) [
          | yes f ↦
              let k = before.whole A B C D p r w (sym f ∙ e) a in
              let b = first_in_law w a in
              let h = held_has (B at p) k.0 before b k.1 in
              (k.0, keeps (B at p) k.0 b k.1, keeps (second C D p k.0) r (second_in_law w a k.0 h) k.2)
          | no d ↦
              let i = leaves.others A p w d in
              let k = leaves.holds (A at p) i in
              let q = parts (subst (Has rule s (A at p)) (result_code k.0 r (sym k.2 ∙ e)) k.1).2 a in (
                q.between,
                reached_result (B at p) q.between (first_of i a) (q.steps, q.height, q.first),
                reached_result (second C D p q.between) r (of_second i a q.first) (q.more, q.higher, q.rest),
              )
        ]

        -- A blank cell is none of a reached pair: both its numbers are as before.
        not_reached : (A p : ℕ) → held (length s) T (A at p) ≡ 0 → Reached rule s x (A at p) → ⊥
        not_reached A p z i = let k = leaves.holds (A at p) i in code_full k.0 (sym k.2 ∙ z)

        blank_after : (A p : ℕ) → Within v (length s) A p → held (length s) T (A at p) ≡ 0 → reach (length s) T (A at p) ≡ 0
        blank_after A p w z = elim (ℕ_discrete (reach (length s) T (A at p)) (start (A at p)).1) [
          | yes f ↦ elim (ℕ_discrete (held (length s) T (A at p)) (start (A at p)).0) [
            | yes g ↦ f ∙ before.blank A p w (sym g ∙ z)
            | no d ↦ absurd (not_reached A p z (leaves.others A p w d))
          ]
          | no d ↦ absurd (not_reached A p z (leaves.others_reach A p w d))
        ]

        pub ask_right : RightCells s (contents (length s) T)
        ask_right = record { right = right_after; whole = whole_after; blank = blank_after }

    -- ---- What a correction retains of right cells is right on the corrected entry.

    module _ (s s' : List ℕ) (c : ℕ) (d : DiffersAt c s s') (O : List ℕ) where
      -- A cell that stays holds what it held,
      retained_is : (A p : ℕ) → stays (c + 1) p (contents (length s) O (A at p)) ≡ true → retained (c + 1) (length s') O (A at p) ≡ contents (length s) O (A at p)
      retained_is A p h = rw (d.size, h)

      retained_stays : (A p : ℕ) → (retained (c + 1) (length s') O (A at p)).0 ≢ 0 → stays (c + 1) p (contents (length s) O (A at p)) ≡ true
      retained_stays A p n = go (stays (c + 1) p (contents (length s) O (A at p))) refl
        where
          go : (b : Bool) → stays (c + 1) p (contents (length s) O (A at p)) ≡ b → stays (c + 1) p (contents (length s) O (A at p)) ≡ true
          go true h = h
          go false h = absurd (n (rw (d.size, h)))

      -- and it is right of c, or a result that looked at bytes before c only.
      why_stays : (p : ℕ) (k : ℕ × ℕ) → stays (c + 1) p k ≡ true → (c < p) ⊎ ((is_result k.0 ≡ true) × (k.1 ≤ c))
      why_stays p k h = go (ltb p (c + 1)) (is_result k.0) (ltb k.1 (c + 1)) refl refl refl h
        where
          go : (x y z : Bool) → ltb p (c + 1) ≡ x → is_result k.0 ≡ y → ltb k.1 (c + 1) ≡ z → (not x || (y && z)) ≡ true
              → (c < p) ⊎ ((is_result k.0 ≡ true) × (k.1 ≤ c))
          go false y z e f g i = let l = ltb-false p (c + 1) e in inl (omega arith)
          go true true true e f g i = let l = ltb-true k.1 (c + 1) g in inr (f, omega arith)
          go true true false e f g i = absurd (true≢false (sym i))
          go true false z e f g i = absurd (true≢false (sym i))

      above_stays : (p : ℕ) (k : ℕ × ℕ) → c < p → stays (c + 1) p k ≡ true
      above_stays p k l = rw (le-ltb p (c + 1) (omega arith))

      before_stays : (p m : ℕ) (r : Result) → m ≤ c → stays (c + 1) p (code (result r), m) ≡ true
      before_stays p m failure l = rw (lt-ltb m (c + 1) (omega arith)) (or_true (not (ltb p (c + 1))))
      before_stays p m (success q) l =
          rw (le-ltb (5 + q) 5 (omega arith), ne_eqb (5 + q) 1 (λ e. omega arith), lt-ltb m (c + 1) (omega arith)) (or_true (not (ltb p (c + 1))))

      within_old : {A p : ℕ} → Within v (length s') A p → Within v (length s) A p
      within_old {A} {p} w = subst (λ (n : ℕ). Within v n A p) d.size w

      module _ (r : RightCells s (contents (length s) O)) where
        -- The result of a pair, and its reach, as they were.
        was : (y : Pair) (t : Result) → PairWithin v (length s) y → held (length s) O y ≡ code (result t) → Has rule s y (result t) × Examines rule s y t (reach (length s) O y)
        was y t w e = held_reaches s y t r w e

        -- A cell whose reach is at most c holds what it held.
        before_is : (y : Pair) (t : Result) → held (length s) O y ≡ code (result t) → reach (length s) O y ≤ c → (retained (c + 1) (length s') O y).0 ≡ code (result t)
        before_is (A at p) t e l =
            ap (λ (k : ℕ × ℕ). k.0)
            (retained_is A p (subst (λ (o : ℕ). stays (c + 1) p (o, reach (length s) O (A at p)) ≡ true) (sym e) (before_stays p (reach (length s) O (A at p)) t l))) ∙ e

        above_is : (y : Pair) (t : Result) → c < position_of y → held (length s) O y ≡ code (result t) → (retained (c + 1) (length s') O y).0 ≡ code (result t)
        above_is (A at p) t l e = ap (λ (k : ℕ × ℕ). k.0) (retained_is A p (above_stays p (contents (length s) O (A at p)) l)) ∙ e

        right_retained : (A p : ℕ) → Within v (length s') A p → (retained (c + 1) (length s') O (A at p)).0 ≢ 0
            → (o : Outcome) × Has rule s' (A at p) o × ((retained (c + 1) (length s') O (A at p)).0 ≡ code o) × Reaches rule s' (A at p) o (retained (c + 1) (length s') O (A at p)).1
        right_retained A p w n = go (why_stays p (contents (length s) O (A at p)) h)
          where
            h : stays (c + 1) p (contents (length s) O (A at p)) ≡ true
            h = retained_stays A p n

            e : retained (c + 1) (length s') O (A at p) ≡ contents (length s) O (A at p)
            e = retained_is A p h

            k : (o : Outcome) × Has rule s (A at p) o × (held (length s) O (A at p) ≡ code o) × Reaches rule s (A at p) o (reach (length s) O (A at p))
            k = r.right A p (within_old w) (λ z. n (ap (λ (j : ℕ × ℕ). j.0) e ∙ z))

            kept_so : (o : Outcome) → Has rule s' (A at p) o → held (length s) O (A at p) ≡ code o → Reaches rule s' (A at p) o (reach (length s) O (A at p))
                → (o : Outcome) × Has rule s' (A at p) o × ((retained (c + 1) (length s') O (A at p)).0 ≡ code o) × Reaches rule s' (A at p) o (retained (c + 1) (length s') O (A at p)).1
            kept_so o a b m = (o, a, ap (λ (j : ℕ × ℕ). j.0) e ∙ b, subst (λ (j : ℕ × ℕ). Reaches rule s' (A at p) o j.1) (sym e) m)

            go : (c < p) ⊎ ((is_result (held (length s) O (A at p)) ≡ true) × (reach (length s) O (A at p) ≤ c))
                → (o : Outcome) × Has rule s' (A at p) o × ((retained (c + 1) (length s') O (A at p)).0 ≡ code o) × Reaches rule s' (A at p) o (retained (c + 1) (length s') O (A at p)).1
            go (inl l) =
                let i : Right rule s s' c d (A at p) = record { above = l; inside = (within_old w).position } in
                kept_so k.0 (right_has rule s s' c d (A at p) k.0 i k.1) k.2 (right_reaches rule s s' c d (A at p) k.0 (reach (length s) O (A at p)) i k.3)
            go (inr l) =
                let q = is_result_law k.0 (ap is_result (sym k.2) ∙ l.0) in
                let m = examined_before rule s s' c d l.1 (subst (λ (o : Outcome). Reaches rule s (A at p) o (reach (length s) O (A at p))) q.1 k.3) in
                kept_so (result q.0) (examines_derives rule s' m) (k.2 ∙ ap code q.1) m

        -- What a pair with a retained result calls has its result there too: it is right of c, or its reach is no greater.
        whole_retained : (A B C D p : ℕ) (q : Result) → Within v (length s') A p → (retained (c + 1) (length s') O (A at p)).0 ≡ code (result q) → act rule s' (A at p) ≡ calls B C D
            → (t : Result) × ((retained (c + 1) (length s') O (B at p)).0 ≡ code (result t)) × ((retained (c + 1) (length s') O (second C D p t)).0 ≡ code (result q))
        whole_retained A B C D p q w e a = go (why_stays p (contents (length s) O (A at p)) stay)
          where
            stay : stays (c + 1) p (contents (length s) O (A at p)) ≡ true
            stay = retained_stays A p (λ z. code_full (result q) (sym e ∙ z))

            b : act rule s (A at p) ≡ calls B C D
            b = call_act rule s' s A p B C D a

            u : Within v (length s) A p
            u = within_old w

            there : held (length s) O (A at p) ≡ code (result q)
            there = sym (ap (λ (k : ℕ × ℕ). k.0) (retained_is A p stay)) ∙ e

            h : (t : Result) × (held (length s) O (B at p) ≡ code (result t)) × (held (length s) O (second C D p t) ≡ code (result q))
            h = r.whole A B C D p q u there b

            f : Has rule s (B at p) (result h.0) × Examines rule s (B at p) h.0 (reach (length s) O (B at p))
            f = was (B at p) h.0 (first_in_law s u b) h.1

            g : Has rule s (second C D p h.0) (result q) × Examines rule s (second C D p h.0) q (reach (length s) O (second C D p h.0))
            g = was (second C D p h.0) q (second_in_law s u b h.0 f.0) h.2

            go : (c < p) ⊎ ((is_result (held (length s) O (A at p)) ≡ true) × (reach (length s) O (A at p) ≤ c))
                → (t : Result) × ((retained (c + 1) (length s') O (B at p)).0 ≡ code (result t)) × ((retained (c + 1) (length s') O (second C D p t)).0 ≡ code (result q))
            go (inl l) =
                let i = right_second rule s s' c d C D p h.0 l u.position (derives_ends rule s {x = B at p} {k = f.0.0} {h = f.0.1} u.position f.0.2) in
                (h.0, above_is (B at p) h.0 l h.1, above_is (second C D p h.0) q i.above h.2)
            go (inr l) =
                let m = examines_one rule s (was (A at p) q u there).1 (node b f.1 g.1) in
                let n = l.1 in
                (h.0, before_is (B at p) h.0 h.1 (omega arith), before_is (second C D p h.0) q h.2 (omega arith))

        blank_retained : (A p : ℕ) → Within v (length s') A p → (retained (c + 1) (length s') O (A at p)).0 ≡ 0 → (retained (c + 1) (length s') O (A at p)).1 ≡ 0
        blank_retained A p w =
            rw d.size (kept_blank (stays (c + 1) p (contents (length s) O (A at p))) (contents (length s) O (A at p)) (r.blank A p (within_old w)))

        pub retain_right : RightCells s' (retained (c + 1) (length s') O)
        retain_right = record { right = right_retained; whole = whole_retained; blank = blank_retained }

    -- Every kept table is right.
    pub kept_right : {s T : List ℕ} → KeptTable rule v s T → RightCells s (contents (length s) T)
    kept_right {s} (blank z) = blank_right s z
    kept_right {s} (asked w t) = ask_right s (blank_right s (λ A p w. refl)) t
    kept_right {s} (further w k t) = ask_right s (kept_right k) t
    kept_right (corrected {s = s} {s' = s'} {O = O} {c = c} w b k d t) = ask_right s' (retain_right s s' c d O (kept_right k)) t
