-- The test whether a line follows is the relation, both ways. Assumes nothing.
use mathlib.Core.Bool.{Bool, true, false, cond, ◌&&◌, false≢true, and-eq-true_iff, true≢false}
use mathlib.Core.List.{List}
use mathlib.Core.Logic.{◌↔◌}
use mathlib.Core.Option.{Option, none, some}
use mathlib.Core.Path.{◌≡◌, refl, ap, ◌∙◌}
use Prim.Native.Nat.{ℕ}
use lib.Dec.{eqb, leb}
use lib.ListN.{length}
use borrow.Author.Tests.{eqb-true, leb-true, eq-eqb, le-leb}
use Rattle.grammar.specs.Rule.{Rule, within}
use Rattle.grammar.proofs.Fitting.{within_bounds, within_both}
use Rattle.schema.specs.Derivation.{Pair, ◌at◌, Result, success, failure, Act, gives, stops, calls, act, second}
use Rattle.schema.specs.Line.{Line, line, line_of, numbered, Stands, Follows, by_leaf, by_call}
use Rattle.schema.specs.Table.{Within}
use Rattle.checker.specs.Checker.{result_for, result_then, result_by, says, follows}

-- A line that says the result of a pair is the line of the pair and the result.
pub says_line : (A p flag e i j : ℕ) (o : Option Result) → says p flag e o ≡ true
    → (r : Result) × (o ≡ some r) × (line A p flag e i j ≡ line_of (A at p) r i j)
says_line A p flag e i j none h = absurd (false≢true h)
says_line A p flag e i j (some (success q)) h =
    let b = (and-eq-true_iff (eqb flag 0) (eqb e q)).0 h in
    let f = eqb-true flag 0 b.0 in
    let g = eqb-true e q b.1 in
    (success q, refl, cc)
says_line A p flag e i j (some failure) h =
    let b = (and-eq-true_iff (eqb flag 1) (eqb e p)).0 h in
    let f = eqb-true flag 1 b.0 in
    let g = eqb-true e p b.1 in
    (failure, refl, cc)

-- A line that gives a pair a result is the line of the pair and the result.
result_line : (x : Pair) (l : Line) (r : Result) → result_for x (some l) ≡ some r → (i : ℕ) × (j : ℕ) × (l ≡ line_of x r i j)
result_line (A at p) (line B q flag e i j) r h = go (eqb B A) (eqb q p) (eqb flag 0) (eqb flag 1) (eqb e p) refl refl refl refl refl h
  where
    go : (a b c d f : Bool) → eqb B A ≡ a → eqb q p ≡ b → eqb flag 0 ≡ c → eqb flag 1 ≡ d → eqb e p ≡ f
        → cond (a && b) (cond c (some (success e)) (cond (d && f) (some failure) none)) none ≡ some r
        → (i' : ℕ) × (j' : ℕ) × (line B q flag e i j ≡ line_of (A at p) r i' j')
    go false b c d f u v w y z h = absurd (true≢false (cc))
    go true false c d f u v w y z h = absurd (true≢false (cc))
    go true true true d f u v w y z h =
        let k = eqb-true B A u in
        let m = eqb-true q p v in
        let n = eqb-true flag 0 w in
        let t : success e ≡ r = cc in
        (i, j, rw (← t) (cc))
    go true true false false f u v w y z h = absurd (true≢false (cc))
    go true true false true false u v w y z h = absurd (true≢false (cc))
    go true true false true true u v w y z h =
        let k = eqb-true B A u in
        let m = eqb-true q p v in
        let n = eqb-true flag 1 y in
        let o = eqb-true e p z in
        let t : failure ≡ r = cc in
        (i, j, rw (← t) (cc))

-- The line of a pair and a result gives the pair the result.
pub line_result : (x : Pair) (r : Result) (i j : ℕ) → result_for x (some (line_of x r i j)) ≡ some r
line_result (A at p) (success q) i j = rw (eq-eqb A A refl, eq-eqb p p refl)
line_result (A at p) failure i j = rw (eq-eqb A A refl, eq-eqb p p refl)

module _ (earlier : List Line) where
  -- A line among the earlier ones gives a pair a result exactly if it stands there with it.
  stands : (x : Pair) (i : ℕ) (r : Result) → result_for x (numbered earlier i) ≡ some r → Stands earlier i x r
  stands x i r h = go (numbered earlier i) refl h
    where
      nothing : (y : Pair) → result_for y none ≡ none
      nothing (A at p) = refl

      go : (o : Option Line) → numbered earlier i ≡ o → result_for x o ≡ some r → Stands earlier i x r
      go none e h = let n = nothing x in absurd (true≢false (cc))
      go (some l) e h = let m = result_line x l r h in record { first = m.0; second = m.1; line = e ∙ ap some m.2 }

  stands_result : (x : Pair) (i : ℕ) (r : Result) → Stands earlier i x r → result_for x (numbered earlier i) ≡ some r
  stands_result x i r t = ap (result_for x) t.line ∙ line_result x r t.first t.second

  module _ (rule : ℕ → Rule) (v : ℕ) (input : List ℕ) where
    follows_by : (A p i j : ℕ) (r : Result) (a : Act) (l : Line) → Within v (length input) A p → act rule input (A at p) ≡ a
        → result_by (numbered earlier) a p i j ≡ some r → l ≡ line_of (A at p) r i j → Follows rule v input earlier l
    follows_by A p i j r (gives t) l w e h q = go (eqb i 0) (eqb j 0) refl refl h
      where
        go : (b c : Bool) → eqb i 0 ≡ b → eqb j 0 ≡ c → cond (b && c) (some t) none ≡ some r → Follows rule v input earlier l
        go false c x y h = absurd (true≢false (cc))
        go true false x y h = absurd (true≢false (cc))
        go true true x y h =
            let k = eqb-true i 0 x in
            let m = eqb-true j 0 y in
            let z : t ≡ r = cc in
            by_leaf {r = r} w (e ∙ ap gives z) (rw (k, m) at q)
    follows_by A p i j r (stops t) l w e h q = absurd (true≢false (cc))
    follows_by A p i j r (calls B C D) l w e h q = go (result_for (B at p) (numbered earlier i)) refl h
      where
        go : (o : Option Result) → result_for (B at p) (numbered earlier i) ≡ o → result_then (numbered earlier) C D p j o ≡ some r → Follows rule v input earlier l
        go none f h = absurd (true≢false (cc))
        go (some t) f h = by_call w e (stands (B at p) i t f) (stands (second C D p t) j r h) q

    says_own : (A p i j : ℕ) (r : Result) → Within v (length input) A p → result_by (numbered earlier) (act rule input (A at p)) p i j ≡ some r
        → follows rule v input (numbered earlier) (some (line_of (A at p) r i j)) ≡ true
    unfolding follows
    says_own A p i j (success q) w h = rw (within_both 1 v A w.variable.0 w.variable.1, le-leb p (length input) w.position, h, eq-eqb q q refl)
    says_own A p i j failure w h = rw (within_both 1 v A w.variable.0 w.variable.1, le-leb p (length input) w.position, h, eq-eqb p p refl)

    relation_of : (l : Line) → follows rule v input (numbered earlier) (some l) ≡ true → Follows rule v input earlier l
    unfolding follows
    relation_of (line A p flag e i j) h =
        let b = (and-eq-true_iff (within 1 v A && leb p (length input)) _).0 h in
        let d = (and-eq-true_iff (within 1 v A) (leb p (length input))).0 b.0 in
        let m = within_bounds 1 v A d.0 in
        let w : Within v (length input) A p = record { variable = m; position = leb-true p (length input) d.1 } in
        let y = says_line A p flag e i j (result_by (numbered earlier) (act rule input (A at p)) p i j) b.1 in
        follows_by A p i j y.0 (act rule input (A at p)) (line A p flag e i j) w refl y.1 y.2

    test_of : (l : Line) → Follows rule v input earlier l → follows rule v input (numbered earlier) (some l) ≡ true
    test_of l (by_leaf {A} {p} {r} w e q) = rw q (says_own A p 0 0 r w (ap (λ (a : Act). result_by (numbered earlier) a p 0 0) e))
    test_of l (by_call {A} {B} {C} {D} {p} {i} {j} {r} {t} w e f g q) =
        rw q
        (says_own A p i j r w
        (ap (λ (a : Act). result_by (numbered earlier) a p i j) e
        ∙ ap (result_then (numbered earlier) C D p j) (stands_result (B at p) i t f)
        ∙ stands_result (second C D p t) j r g))

    -- The test is the relation.
    pub follows_relation : (l : Line) → (follows rule v input (numbered earlier) (some l) ≡ true) ↔ Follows rule v input earlier l
    follows_relation l = (relation_of l, test_of l)
