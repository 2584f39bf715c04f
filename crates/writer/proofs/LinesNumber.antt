-- There are as many lines as reached pairs: a visit writes no pair twice, and what a written pair calls is written. Assumes nothing.
use mathlib.Core.Bool.{true≢false}
use mathlib.Core.HLevel.{⊥_prop}
use mathlib.Core.Path.{◌≡◌, refl, sym, ap, ◌∙◌, subst}
use mathlib.Core.List.Memᴰ
use mathlib.Core.List.{List, [], ◌∷◌, ◌++◌, Memᴰ, Nodup-nil, Nodup-cons}
use mathlib.Core.Logic.{◌⊎◌, inl, inr, ◌↔◌, ∥∥₁_elim}
use Prim.Native.Nat.{ℕ, suc, ◌+◌, ◌≤◌}
use native.Mathlib.Nat.{le-max_left, le-max_right}
use native.Mathlib.Omega.{arith}
use lib.ListN.{length, length-append}
use Rattle.grammar.specs.Rule.{Rule}
use Rattle.schema.specs.Derivation as derivation
use Rattle.schema.specs.Derivation.{Pair, ◌at◌, Result, act, gives, calls, second, Derives}
use Rattle.schema.specs.Line.{Line, line_of, Stands}
use Rattle.schema.specs.Reached.{Reached, itself, first_of, of_second, Number}
use Rattle.schema.proofs.Laws.{derives_one, number_one}
use Rattle.writer.specs.Writer.{Unwritten, Visits, passed, leaf, node}
use Rattle.schema.proofs.Lines.{stands_none, stands_before, stands_last, stands_cases}
use Rattle.schema.proofs.Parts.{calls_one}
use Rattle.writer.proofs.Visiting.{visit_keeps, visit_stands}
use Rattle.writer.proofs.WriterLaws.{Right, visit_right}

-- One pair more.
number_more : {P Q : Pair → Type 0} {c : ℕ} (y : Pair) → Number P c → ¬ P y → ((z : Pair) → Q z ↔ (P z ⊎ (z ≡ y))) → Number Q (suc c)
number_more y n d q = record {
  pairs = y ∷ n.pairs;
  distinct = Nodup-cons.1 (λ m. ∥∥₁_elim m ⊥_prop (λ k. d ((n.exactly y).0 k)), n.distinct);
  exactly = λ z. (
    λ m. elim (Memᴰ.cases_cons m) [ inl e ↦ (q z).1 (inr e) | inr k ↦ (q z).1 (inl ((n.exactly z).0 k)) ],
    λ w. elim ((q z).0 w) [ inl p ↦ Memᴰ.tail ((n.exactly z).1 p) | inr e ↦ Memᴰ.head e ],
  );
  counted = ap suc n.counted;
}

-- The line of y stands.
abbrev InLines : List Line → Pair → Type 0
InLines ls y = (i : ℕ) × (r : Result) × Stands ls i y r

line_more : {ls : List Line} (x : Pair) (r : Result) (i j : ℕ) → Unwritten ls x → Number (InLines ls) (length ls)
    → Number (InLines (ls ++ line_of x r i j ∷ [])) (length (ls ++ line_of x r i j ∷ []))
line_more {ls} x r i j u n =
    let e : suc (length ls) ≡ length (ls ++ line_of x r i j ∷ []) = let a = length-append ls (line_of x r i j ∷ []) in omega arith in
    subst (Number (InLines (ls ++ line_of x r i j ∷ []))) e (number_more x n (λ m. u m.0 m.1 m.2) (λ z. (
      λ m. elim (stands_cases ls x r i j m.2) [ inl o ↦ inl (m.0, m.1, o) | inr o ↦ inr (sym o.1) ],
      λ m. elim m [
        | inl o ↦ (o.0, o.1, stands_before (line_of x r i j ∷ []) o.2)
        | inr e ↦ (length ls + 1, r, subst (λ (w : Pair). Stands (ls ++ line_of x r i j ∷ []) (length ls + 1) w r) (sym e) (stands_last ls x r i j))
      ],
    )))

module _ (rule : ℕ → Rule) (s : List ℕ) where
  -- The derivation of y is at most h high.
  abbrev Low : ℕ → Pair → Result → Type 0
  Low h y t = (l : ℕ) × (g : ℕ) × Derives rule s y t l g × (g ≤ h)

  low_self : {x y : Pair} {q t : Result} {l g h : ℕ} → x ≡ y → q ≡ t → Derives rule s x q l g → g ≤ h → Low h y t
  low_self {x} {y} {q} {t} {l} {g} a b d z =
      (l, g, subst (λ (w : Pair). Derives rule s w t l g) a (subst (λ (w : Result). Derives rule s x w l g) b d), z)

  -- What a visit writes has derivations no higher than that of its pair.
  visit_low : {before after : List Line} {x : Pair} {r : Result} {k h : ℕ} → Visits rule s before x after → Right rule s before → Derives rule s x r k h
      → (y : Pair) (t : Result) (i : ℕ) → Stands after i y t → Stands before i y t ⊎ Low h y t
  visit_low (passed m) f d y t i n = inl n
  visit_low (leaf {before = before} {x = x} {r = q} u e) f d y t i n = elim (stands_cases before x q 0 0 n) [
    | inl o ↦ inl o
    | inr o ↦ let z = (derives_one rule s (derivation.Derives.leaf e) d).2 in inr (low_self o.1 o.2 (derivation.Derives.leaf e) (omega arith))
  ]
  visit_low (node {after = after} {A = A} {B = B} {C = C} {D = D} {p = p} {i = a} {j = b} {r = q} {t = u} n e v m w k) f d y t i o =
      let f₁ = visit_right rule s v f in
      let c = f₁ (B at p) u a m in
      let g = visit_right rule s w f₁ (second C D p u) q b k in
      let z = (derives_one rule s (derivation.Derives.node e c.2 g.2) d).2 in
      let l = le-max_left c.1 g.1 in
      let r = le-max_right c.1 g.1 in
      elim (stands_cases after (A at p) q a b o) [
        | inr h ↦ inr (low_self h.1 h.2 (derivation.Derives.node e c.2 g.2) (omega arith))
        | inl h ↦ elim (visit_low w f₁ g.2 y t i h) [
          | inr j ↦ let x = j.3 in inr (j.0, j.1, j.2, omega arith)
          | inl j ↦ elim (visit_low v f c.2 y t i j) [
            | inr x ↦ let x₁ = x.3 in inr (x.0, x.1, x.2, omega arith)
            | inl x ↦ inl x
          ]
        ]
      ]

  -- So a pair is not written before its own line comes.
  pub node_unwritten : {before middle after : List Line} {A B C D p i j : ℕ} {r t : Result} → Right rule s before → Unwritten before (A at p) → act rule s (A at p) ≡ calls B C D
      → Visits rule s before (B at p) middle → Stands middle i (B at p) t → Visits rule s middle (second C D p t) after → Stands after j (second C D p t) r
      → Unwritten after (A at p)
  node_unwritten {A = A} {B = B} {C = C} {D = D} {p = p} {i = i} {j = j} {r = r} {t = t} f u e v m w k a q h =
      let f₁ = visit_right rule s v f in
      let c = f₁ (B at p) t i m in
      let g = visit_right rule s w f₁ (second C D p t) r j k in
      let l = le-max_left c.1 g.1 in
      let n = le-max_right c.1 g.1 in
      elim (visit_low w f₁ g.2 (A at p) q a h) [
        | inr o ↦ let z = (derives_one rule s (derivation.Derives.node e c.2 g.2) o.2).2 in let y = o.3 in omega arith
        | inl b ↦ elim (visit_low v f c.2 (A at p) q a b) [
          | inr o ↦ let z = (derives_one rule s (derivation.Derives.node e c.2 g.2) o.2).2 in let y = o.3 in omega arith
          | inl o ↦ u a q o
        ]
      ]

  visit_number : {before after : List Line} {x : Pair} → Visits rule s before x after → Right rule s before → Number (InLines before) (length before)
      → Number (InLines after) (length after)
  visit_number (passed m) f n = n
  visit_number (leaf {x = x} {r = r} u e) f n = line_more x r 0 0 u n
  visit_number (node {A = A} {p = p} {i = i} {j = j} {r = r} u e v m w k) f n =
      line_more (A at p) r i j (node_unwritten f u e v m w k) (visit_number w (visit_right rule s v f) (visit_number v f n))

  -- ---- The pairs written are those reached.

  visit_reached : (root : Pair) {before after : List Line} {x : Pair} → Reached rule s root x → Visits rule s before x after → Right rule s before
      → ((y : Pair) → InLines before y → Reached rule s root y) → (y : Pair) → InLines after y → Reached rule s root y
  visit_reached root q (passed m) f h y n = h y n
  visit_reached root q (leaf {before = before} {x = x} {r = r} u e) f h y n = elim (stands_cases before x r 0 0 n.2) [
    | inl o ↦ h y (n.0, n.1, o)
    | inr o ↦ subst (Reached rule s root) o.1 q
  ]
  visit_reached root q (node {after = after} {A = A} {B = B} {p = p} {i = i} {j = j} {r = r} {t = t} u e v m w k) f h y n =
      let f₁ = visit_right rule s v f in
      elim (stands_cases after (A at p) r i j n.2) [
        | inl o ↦ visit_reached root (of_second q e (f₁ (B at p) t i m).2) w f₁ (λ z a. visit_reached root (first_of q e) v f h z a) y (n.0, n.1, o)
        | inr o ↦ subst (Reached rule s root) o.1 q
      ]

  -- What a pair calls is written.
  data Whole (ls : List Line) : Pair → Type 0 where
    whole_leaf : {x : Pair} {r : Result} → act rule s x ≡ gives r → Whole ls x
    whole_calls : {A B C D p i j : ℕ} {r t : Result} → act rule s (A at p) ≡ calls B C D → Stands ls i (B at p) t → Stands ls j (second C D p t) r → Whole ls (A at p)

  whole_before : {ls : List Line} (more : List Line) {x : Pair} → Whole ls x → Whole (ls ++ more) x
  whole_before more (whole_leaf e) = whole_leaf e
  whole_before more (whole_calls e m k) = whole_calls e (stands_before more m) (stands_before more k)

  whole_more : {ls : List Line} (x : Pair) (r : Result) (i j : ℕ) → ((y : Pair) → InLines ls y → Whole ls y) → Whole ls x
      → (y : Pair) → InLines (ls ++ line_of x r i j ∷ []) y → Whole (ls ++ line_of x r i j ∷ []) y
  whole_more {ls} x r i j h w y n = elim (stands_cases ls x r i j n.2) [
    | inl o ↦ whole_before (line_of x r i j ∷ []) (h y (n.0, n.1, o))
    | inr o ↦ subst (Whole (ls ++ line_of x r i j ∷ [])) o.1 (whole_before (line_of x r i j ∷ []) w)
  ]

  visit_whole : {before after : List Line} {x : Pair} → Visits rule s before x after → ((y : Pair) → InLines before y → Whole before y)
      → (y : Pair) → InLines after y → Whole after y
  visit_whole (passed m) h = h
  visit_whole (leaf {x = x} {r = r} u e) h = whole_more x r 0 0 h (whole_leaf e)
  visit_whole (node {A = A} {p = p} {i = i} {j = j} {r = r} u e v m w k) h =
      whole_more (A at p) r i j (visit_whole w (visit_whole v h)) (whole_calls e (visit_keeps rule s w m) k)

  first_in_law : {ls : List Line} {A B C D p : ℕ} → Whole ls (A at p) → act rule s (A at p) ≡ calls B C D → InLines ls (B at p)
  first_in_law (whole_leaf f) e = absurd (true≢false (cc))
  first_in_law {ls} {p = p} (whole_calls {i = i} {t = t} f m k) e = (i, t, subst (λ (X : ℕ). Stands ls i (X at p) t) (calls_one f e).0 m)

  second_in_law : {ls : List Line} {A B C D p k h : ℕ} {t : Result} → Right rule s ls → Whole ls (A at p) → act rule s (A at p) ≡ calls B C D
      → Derives rule s (B at p) t k h → InLines ls (second C D p t)
  second_in_law r (whole_leaf f) e d = absurd (true≢false (cc))
  second_in_law {ls} {C = C} {D = D} {p = p} {t = t} r (whole_calls {B = E} {C = F} {D = G} {i = i} {j = j} {r = q} {t = u} f m k) e d =
      let z = calls_one f e in
      let w = (derives_one rule s (r _ u i (subst (λ (X : ℕ). Stands ls i (X at p) u) z.0 m)).2 d).0 in (
        j,
        q,
        subst (λ (y : Pair). Stands ls j y q)
            (ap (λ (X : ℕ). second X G p u) z.1 ∙ ap (λ (X : ℕ). second C X p u) z.2 ∙ ap (second C D p) w) k,
      )

  reached_in : {ls : List Line} {x y : Pair} → Right rule s ls → ((z : Pair) → InLines ls z → Whole ls z) → InLines ls x → Reached rule s x y → InLines ls y
  reached_in r h m itself = m
  reached_in r h m (first_of {A} {B} {C} {D} {p} q e) = first_in_law (h (A at p) (reached_in r h m q)) e
  reached_in r h m (of_second {A} {B} {C} {D} {p} q e d) = second_in_law r (h (A at p) (reached_in r h m q)) e d

  -- There are as many lines as pairs that the question reaches.
  pub lines_number : {x : Pair} {ls : List Line} → Visits rule s [] x ls → Number (Reached rule s x) (length ls)
  lines_number {x} {ls} v =
      let f : Right rule s [] = λ y r i m. absurd (stands_none m) in
      let n = visit_number v f (record {
        pairs = [];
        distinct = Nodup-nil;
        exactly = λ y. (λ m. absurd (Memᴰ.not-nil m), λ m. absurd (stands_none m.2));
        counted = refl;
      }) in
      let g = visit_right rule s v f in
      let h = visit_whole v (λ y m. absurd (stands_none m.2)) in
      record {
        pairs = n.pairs;
        distinct = n.distinct;
        exactly = λ y. (
          λ m. visit_reached x itself v f (λ z o. absurd (stands_none o.2)) y ((n.exactly y).0 m),
          λ q. (n.exactly y).1 (reached_in g h (visit_stands rule s v) q),
        );
        counted = n.counted;
      }

  -- So there are as many as decided cells, where these are counted by the pairs reached.
  pub lines_count : {x : Pair} {ls : List Line} {c : ℕ} → Visits rule s [] x ls → Number (Reached rule s x) c → length ls ≡ c
  lines_count v n = number_one (lines_number v) n
