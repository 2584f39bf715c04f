-- Laws of the lines that the writer writes: they say what derivations say, each follows from a rule and earlier lines, and the last is the
-- question's. Assumes nothing.
use mathlib.Core.Path.{◌≡◌, refl, sym, subst}
use mathlib.Core.List.{List, [], ◌∷◌, ◌++◌}
use mathlib.Core.Logic.{inl, inr}
use Prim.Native.Nat.{ℕ}
use lib.ListN.{length, length-append}
use Rattle.grammar.specs.Rule.{Rule}
use Rattle.schema.specs.Closed.{Closed}
use Rattle.schema.specs.Derivation as derivation
use Rattle.schema.specs.Derivation.{Pair, ◌at◌, Result, second, Derives, result, Has}
use Rattle.schema.specs.Line.{Line, line_of, Stands, Follows, by_leaf, by_call}
use Rattle.schema.proofs.Cell.{PairWithin}
use Rattle.schema.proofs.Closed.{calls_call, second_within}
use Rattle.schema.proofs.Ends.{ends_in, derives_ends}
use Rattle.schema.proofs.Laws.{has_one}
use Rattle.writer.specs.Writer.{Unwritten, Visits, passed, leaf, node}
use Rattle.schema.proofs.Lines.{stands_none, stands_last, stands_cases}
use Rattle.writer.proofs.Visiting.{visit_keeps}

module _ (rule : ℕ → Rule) (s : List ℕ) where
  -- What the lines say, derivations say.
  abbrev pub Right : List Line → Type 0
  Right ls = (y : Pair) (r : Result) (i : ℕ) → Stands ls i y r → Has rule s y (result r)

  right_more : {ls : List Line} (x : Pair) (r : Result) (i j : ℕ) → Right ls → Has rule s x (result r) → Right (ls ++ line_of x r i j ∷ [])
  right_more {ls} x r i j h d y t k m = elim (stands_cases ls x r i j m) [
    | inl o ↦ h y t k o
    | inr o ↦ subst (λ (u : Pair). Has rule s u (result t)) o.1 (subst (λ (u : Result). Has rule s x (result u)) o.2 d)
  ]

  -- A visit keeps that.
  pub visit_right : {before after : List Line} {x : Pair} → Visits rule s before x after → Right before → Right after
  visit_right (passed m) h = h
  visit_right (leaf {x = x} {r = r} u e) h = right_more x r 0 0 h (1, 1, derivation.Derives.leaf e)
  visit_right (node {A = A} {B = B} {C = C} {D = D} {p = p} {i = i} {j = j} {r = r} {t = t} u e v m w k) h =
      let g = visit_right v h in
      let f = visit_right w g in
      right_more (A at p) r i j f (_, _, derivation.Derives.node e (g (B at p) t i m).2 (f (second C D p t) r j k).2)

  -- The last line of a visit is that of its pair.
  pub visit_last : {before after : List Line} {x : Pair} → Unwritten before x → Visits rule s before x after → (r : Result) × Stands after (length after) x r
  visit_last n (passed {i = i} {r = r} m) = absurd (n i r m)
  visit_last n (leaf {before = before} {x = x} {r = r} u e) =
      (r, subst (λ (k : ℕ). Stands (before ++ line_of x r 0 0 ∷ []) k x r) (sym (length-append before (line_of x r 0 0 ∷ []))) (stands_last before x r 0 0))
  visit_last n (node {after = after} {A = A} {p = p} {i = i} {j = j} {r = r} u e v m w k) = (
    r,
    subst (λ (k : ℕ). Stands (after ++ line_of (A at p) r i j ∷ []) k (A at p) r) (sym (length-append after (line_of (A at p) r i j ∷ []))) (stands_last after (A at p) r i j),
  )

  -- The last line written is that of the asked pair, with its result.
  pub last_line : {x : Pair} {ls : List Line} {t : Result} → Has rule s x (result t) → Visits rule s [] x ls → Stands ls (length ls) x t
  last_line {x} {ls} {t} h v =
      let l = visit_last (λ i r m. stands_none m) v in
      let e = has_one rule s x (result l.0) (result t) (visit_right v (λ y r i m. absurd (stands_none m)) x l.0 (length ls) l.1) h in
      let q : l.0 ≡ t = cc in
      subst (Stands ls (length ls) x) q l.1

  -- ---- Every line follows.

  module _ (v : ℕ) (closed : Closed v rule) (P : List Line → Type 0)
      (more : (earlier : List Line) (l : Line) → P earlier → Follows rule v s earlier l → P (earlier ++ l ∷ [])) where
    visit_follows : {before after : List Line} {x : Pair} → PairWithin v (length s) x → Right before → Visits rule s before x after → P before → P after
    visit_follows w g (passed m) h = h
    visit_follows {x = A at p} w g (leaf {before = before} {r = r} u e) h = more before (line_of (A at p) r 0 0) h (by_leaf w e refl)
    visit_follows w g (node {middle = middle} {after = after} {A = A} {B = B} {C = C} {D = D} {p = p} {i = i} {j = j} {r = r} {t = t} u e a m b k) h =
        let c = closed A B C D (calls_call (rule A) s p B C D e) in
        let g₁ = visit_right a g in
        let f : PairWithin v (length s) (B at p) = record { variable = c.0; position = w.position } in
        let d = ends_in p (length s) t (derives_ends rule s {x = B at p} w.position (g₁ (B at p) t i m).2) in
        let n = second_within v (length s) C D p t c.1 c.2 w.position d in
        more after (line_of (A at p) r i j) (visit_follows n g₁ b (visit_follows f g a h))
        (by_call w e (visit_keeps rule s b m) k refl)

    -- What holds of no lines, and still with one more line that follows from a rule and earlier lines, holds of the lines written.
    pub each_follows : {x : Pair} {ls : List Line} → PairWithin v (length s) x → Visits rule s [] x ls → P [] → P ls
    each_follows w a h = visit_follows w (λ y r i m. absurd (stands_none m)) a h
