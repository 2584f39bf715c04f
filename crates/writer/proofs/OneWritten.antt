-- What the writer writes is one: a visit fixes its lines, and two results that meet the writer's promise for the same call are the same.
-- Assumes nothing.
use mathlib.Core.Bool.{true≢false}
use mathlib.Core.Path.{◌≡◌, refl, sym, ap, ◌∙◌, subst}
use mathlib.Core.List.{List, [], ◌∷◌, ◌++◌}
use mathlib.Core.Logic.{inl, inr}
use Prim.Native.Nat.{ℕ, ◌*◌}
use lib.ListN.{length, drop}
use Rattle.std.specs.Prelude.{Result as Checkable}
use Rattle.grammar.specs.declared.refusal.Refusal.{Refusal}
use Rattle.grammar.specs.Refusal.{Checked, refused, accepted}
use Rattle.grammar.specs.Rule.{Rule}
use Rattle.grammar.specs.Sheet.{Grammar}
use Rattle.schema.specs.Derivation.{Pair, ◌at◌, Result, second, Outcome, result, stopped, loop}
use Rattle.schema.specs.Handed.{Handed, handed, writer_of}
use Rattle.schema.specs.Line.{Line, line_of, lines_bytes, Stands}
use Rattle.schema.proofs.Handed.{handed_pair}
use Rattle.finish.specs.Reply.{outcome_of}
use Rattle.memo.proofs.Result.{one_answer, one_table}
use Rattle.writer.specs.Writer.{Unwritten, Visits, passed, leaf, node, Lines, Writes, RepliesWriting, WriterPromise, told, lines_in}
use Rattle.writer.specs.declared.Written.{Written}
use Rattle.schema.proofs.Lines.{stands_none, stands_cases}
use Rattle.schema.proofs.Parts.{calls_one}
use Rattle.writer.proofs.Visiting.{Alike}
use Rattle.writer.proofs.WriterLaws.{Right, visit_right}
use Rattle.writer.proofs.LinesNumber.{node_unwritten}

-- One line more, of a pair that has none.
alike_more : {ls : List Line} (x : Pair) (r : Result) (i j : ℕ) → Unwritten ls x → Alike ls → Alike (ls ++ line_of x r i j ∷ [])
alike_more {ls} x r i j u h y k l q t a b = elim (stands_cases ls x r i j a) [
  | inl m ↦ elim (stands_cases ls x r i j b) [
    | inl n ↦ h y k l q t m n
    | inr n ↦ absurd (u k q (subst (λ (z : Pair). Stands ls k z q) (sym n.1) m))
  ]
  | inr m ↦ elim (stands_cases ls x r i j b) [
    | inl n ↦ absurd (u l t (subst (λ (z : Pair). Stands ls l z t) (sym m.1) n))
    | inr n ↦ (m.0 ∙ sym n.0, sym m.2 ∙ n.2)
  ]
]

module _ (rule : ℕ → Rule) (s : List ℕ) where
  -- A visit writes no pair twice.
  visit_alike : {before after : List Line} {x : Pair} → Visits rule s before x after → Right rule s before → Alike before → Alike after
  visit_alike (passed m) f h = h
  visit_alike (leaf {x = x} {r = r} u e) f h = alike_more x r 0 0 u h
  visit_alike (node {A = A} {p = p} {i = i} {j = j} {r = r} u e v m w k) f h =
      alike_more (A at p) r i j (node_unwritten rule s f u e v m w k) (visit_alike w (visit_right rule s v f) (visit_alike v f h))

  -- Where no pair has two lines, and the lines say what derivations say, a visit fixes its lines.
  pub visits_one : {before after after' : List Line} {x : Pair} → Right rule s before → Alike before
      → Visits rule s before x after → Visits rule s before x after' → after ≡ after'
  visits_one f h (passed m) (passed n) = refl
  visits_one f h (passed {i = i} {r = r} m) (leaf u e) = absurd (u i r m)
  visits_one f h (passed {i = i} {r = r} m) (node u e v n w k) = absurd (u i r m)
  visits_one f h (leaf u e) (passed {i = i} {r = r} m) = absurd (u i r m)
  visits_one f h (leaf {before = before} {x = x} {r = r} u e) (leaf {r = t} n d) = let same : r ≡ t = cc in ap (λ (q : Result). before ++ line_of x q 0 0 ∷ []) same
  visits_one f h (leaf u e) (node n d v m w k) = absurd (true≢false (cc))
  visits_one f h (node u e v m w k) (passed {i = i} {r = r} n) = absurd (u i r n)
  visits_one f h (node u e v m w k) (leaf n d) = absurd (true≢false (cc))
  visits_one {before = before} f h (node {middle = middle} {after = after} {A = A} {B = B} {C = C} {D = D} {p = p} {i = i} {j = j} {r = r} {t = t} u e v m w k)
      (node {middle = middle'} {after = after'} {B = E} {C = F} {D = G} {i = i'} {j = j'} {r = r'} {t = t'} u' e' v' m' w' k') =
      let q = calls_one e' e in
      let f₁ = visit_right rule s v f in
      let h₁ = visit_alike v f h in
      let first : middle ≡ middle' = visits_one f h v (subst (λ (X : ℕ). Visits rule s before (X at p) middle') q.0 v') in
      let a = h₁ (B at p) i i' t t' m
      (subst (λ (X : ℕ). Stands middle i' (X at p) t') q.0 (subst (λ (l : List Line). Stands l i' (E at p) t') (sym first) m')) in
      let y : second F G p t' ≡ second C D p t = rw (q.1, q.2, a.1) in
      let w₁ = subst (λ (l : List Line). Visits rule s l (second C D p t) after') (sym first) (subst (λ (X : Pair). Visits rule s middle' X after') y w') in
      let last : after ≡ after' = visits_one f₁ h₁ w w₁ in
      let b = visit_alike w f₁ h₁ (second C D p t) j j' r r' k
      (subst (λ (l : List Line). Stands l j' (second C D p t) r') (sym last) (subst (λ (X : Pair). Stands after' j' X r') y k')) in
      rw (last, a.0, b.0, b.1)

  -- So are the lines of an outcome.
  pub lines_one : (x : Pair) (o : Outcome) (ls ms : List Line) → Lines rule s x o ls → Lines rule s x o ms → ls ≡ ms
  lines_one x (result r) ls ms v w = visits_one (λ y t i m. absurd (stands_none m)) (λ y i j t q m n. absurd (stands_none m)) v w
  lines_one x (stopped q) ls ms v w = v ∙ sym w
  lines_one x loop ls ms v w = v ∙ sym w

  writes_one : (x : Pair) (o q : Outcome) (out out' out'' : List ℕ) (c d : ℕ) → o ≡ q → Writes rule s x o out out' c → Writes rule s x q out out'' d → (out' ≡ out'') × (c ≡ d)
  writes_one x o q out out' out'' c d e m n =
      let same = lines_one x q m.lines n.lines (subst (λ (u : Outcome). Lines rule s x u m.lines) e m.ordered) n.ordered in (
        m.written ∙ ap (λ (ls : List Line). lines_bytes ls ++ drop (49 * length ls) out) same ∙ sym n.written,
        m.counted ∙ ap length same ∙ sym n.counted,
      )

-- One result only: the same answer, table, output and count of lines.
module _ (s input : List ℕ) (A p : ℕ) (table work out : List ℕ) where
  abbrev call : Handed
  call = writer_of input (A at p) (length table) (length work) (length out)

  pub one_written : (table' table'' work' work'' out' out'' : List ℕ) (r t : Checkable Written Refusal) → WriterPromise s input A p table table' work work' out out' r
      → WriterPromise s input A p table table'' work work'' out out'' t
      → (told r ≡ told t) × (table' ≡ table'') × (out' ≡ out'') × (lines_in r ≡ lines_in t)
  one_written table' table'' work' work'' out' out'' r t one other = by_sheet (handed s call) refl one other
    where
      by_sheet : (o : Checked Grammar) → handed s call ≡ o
          → RepliesWriting o input (A at p) table table' work work' out out' (told r) (lines_in r)
          → RepliesWriting o input (A at p) table table'' work work'' out out'' (told t) (lines_in t)
          → (told r ≡ told t) × (table' ≡ table'') × (out' ≡ out'') × (lines_in r ≡ lines_in t)
      by_sheet (refused x l) e m k = (m.0 ∙ sym k.0, m.1 ∙ sym k.1, m.3 ∙ sym k.3, m.4 ∙ sym k.4)
      by_sheet (accepted g) e m k =
          let within = handed_pair s call g e (A at p) refl in
          let same = one_answer s call g e (A at p) within m.2 k.2 in
          let wrote = writes_one g.rule input (A at p) _ _ out out' out'' (lines_in r) (lines_in t) (ap outcome_of same) m.3 k.3 in
          (m.1 ∙ ap accepted same ∙ sym k.1, one_table s call g e (A at p) within m.2 k.2, wrote.0, wrote.1)
