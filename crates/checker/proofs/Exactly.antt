-- A certificate passes exactly if each of its lines follows and the last is the pair in question. Assumes nothing.
use mathlib.Core.Bool.{true, false, ◌&&◌, and-eq-true_iff, true≢false}
use mathlib.Core.List.{List, [], ◌∷◌}
use mathlib.Core.Option.{Option, none, some}
use mathlib.Core.Path.{◌≡◌, refl, sym, ap, ◌∙◌}
use Prim.Native.Nat.{ℕ, zero, suc, ◌*◌, ◌%◌}
use native.Mathlib.Omega.{arith}
use lib.Dec.{eqb, leb}
use lib.ListN.{length}
use borrow.Author.Tests.{eqb-true, eq-eqb, not-false}
use Rattle.grammar.specs.Refusal.{accepted}
use Rattle.grammar.specs.Rule.{Rule, within}
use Rattle.grammar.specs.Sheet.{Grammar}
use Rattle.grammar.proofs.Refusals.{accepted_clear, accepted_same, accepted_none, none_append}
use Rattle.schema.specs.Derivation.{Pair, ◌at◌, Result, success, failure, act}
use Rattle.schema.specs.Line.{Line, line, line_of, numbered}
use Rattle.checker.specs.Checker.{lines, line_at, result_by, follows, other_pair, line_condition, certificate_condition, line_order, lines_order, certificate_order, Claimed, claim_of, last_found, judged}
use Rattle.checker.specs.Steps.{lines_found}
use Rattle.checker.specs.Proper.{Proper, claimed}
use Rattle.checker.proofs.EachLine.{right_line, passed_lines, passes_lines}
use Rattle.checker.proofs.Progress.{Passed, ends}
use Rattle.checker.proofs.CheckRefusals.{lines_alone, judged_parts}
use Rattle.checker.proofs.Relation.{says_line}

-- The line of a pair and a result: it is no other pair's, and claims the result.
own_pair : (x : Pair) (r : Result) (i j : ℕ) → other_pair x (some (line_of x r i j)) ≡ false
own_pair (A at p) (success q) i j = rw (eq-eqb A A refl, eq-eqb p p refl)
own_pair (A at p) failure i j = rw (eq-eqb A A refl, eq-eqb p p refl)

own_claim : (x : Pair) (r : Result) (i j : ℕ) → claim_of (some (line_of x r i j)) ≡ claimed x r
own_claim (A at p) (success q) i j = refl
own_claim (A at p) failure i j = refl

no_pair : (x : Pair) → other_pair x none ≡ true
no_pair (A at p) = refl

-- A line that is no other pair's and follows is the line of the pair and a result.
pair_line : (rule : ℕ → Rule) (v : ℕ) (input : List ℕ) (earlier : ℕ → Option Line) (x : Pair) (l : Line) → other_pair x (some l) ≡ false
    → follows rule v input earlier (some l) ≡ true → (r : Result) × (i : ℕ) × (j : ℕ) × (l ≡ line_of x r i j)
unfolding follows
pair_line rule v input earlier (A at p) (line B q flag e i j) h f =
    let b = (and-eq-true_iff (eqb B A) (eqb q p)).0 (not-false _ h) in
    let k : B ≡ A = eqb-true B A b.0 in
    let m : q ≡ p = eqb-true q p b.1 in
    let d = (and-eq-true_iff (within 1 v B && leb q (length input)) _).0 f in
    let y = says_line B q flag e i j (result_by earlier (act rule input (B at q)) q i j) d.1 in
    let u : B at q ≡ A at p = cc in
    (y.0, i, j, y.2 ∙ ap (λ (z : Pair). line_of z y.0 i j) u)

module _ (g : Grammar) (input s : List ℕ) (x : Pair) where
  -- What is needed for a certificate to pass.
  record Passes : Type 0 where
    whole : length s % 49 ≡ 0
    passed : Passed g.rule g.variables input s (lines s)
    last : other_pair x (line_at s (lines s)) ≡ false

  judged_passes : (c : Claimed) → judged g.rule g.variables input x s ≡ accepted c → Passes
  unfolding judged certificate_condition certificate_order line_condition lines_found
  judged_passes c e =
      let holds = certificate_condition g.rule g.variables input x s in
      let n = accepted_none holds (certificate_order s) (claim_of (line_at s (lines s))) c e in
      let b = (none_append holds (lines_order (lines s)) ((14, 0) ∷ [])).0 n.1 in
      let found = sym (lines_alone g.rule g.variables input x s (lines s)) ∙ (accepted_clear holds (lines_order (lines s)) tt).1 b.0 in
      record {
        whole = eqb-true _ _ (not-false _ n.0);
        passed = accepted_none (line_condition g.rule g.variables input s) (lines_order (lines s)) tt tt found;
        last = b.1.0;
      }

  -- What passes is proper, and claims the result.
  proper_of : Passes → (t : Result) × (claim_of (line_at s (lines s)) ≡ claimed x t) × Proper g input s x t
  unfolding lines_order line_at
  proper_of p = go (lines s) refl
    where
      go : (k : ℕ) → lines s ≡ k → (t : Result) × (claim_of (line_at s (lines s)) ≡ claimed x t) × Proper g input s x t
      go zero e = let n = no_pair x in let l = rw e at p.last in absurd (true≢false (cc))
      go (suc m) e =
          let passed : Passed g.rule g.variables input s (suc m) = rw e at p.passed in
          let c = (none_append (line_condition g.rule g.variables input s) (lines_order m) (line_order (suc m))).0 passed in
          let r = right_line g.rule g.variables input s m c.1 in
          let f = r.formed in
          let y = pair_line g.rule g.variables input _ x r.right (rw (e, f) at p.last) r.given in
          let ls = passed_lines g input s (suc m) passed in
          let z = ls.size in
          let w = p.whole in
          let here : line_at s (suc m) ≡ some (line_of x y.0 y.1 y.2) = f ∙ ap some y.3 in (
            y.0,
            ap (λ (k : ℕ). claim_of (line_at s k)) e ∙ ap claim_of here ∙ own_claim x y.0 y.1 y.2,
            record {
              lines = ls.list;
              reads = record { size = omega arith; line = ls.begins };
              each = ls.each;
              last = record { first = y.1; second = y.2; line = rw z (sym (ls.begins m (omega arith)) ∙ here) };
            },
          )

  -- What is proper passes.
  passes_of : (t : Result) → Proper g input s x t → Passes × (claim_of (line_at s (lines s)) ≡ claimed x t)
  passes_of t p = (
    record {
      whole = omega arith;
      passed = rw count (passes_lines g input s p.each p.reads.line);
      last = rw here (own_pair x t p.last.first p.last.second);
    },
    rw here (own_claim x t p.last.first p.last.second),
  )
    where
      size : length s ≡ 49 * length p.lines
      size = p.reads.size

      count : lines s ≡ length p.lines
      count = omega (arith, size)

      found : (k : ℕ) → length p.lines ≡ k → numbered p.lines k ≡ some (line_of x t p.last.first p.last.second)
          → line_at s k ≡ some (line_of x t p.last.first p.last.second)
      found zero e f = absurd (true≢false (cc))
      found (suc m) e f = p.reads.line m (omega arith) ∙ f

      here : line_at s (lines s) ≡ some (line_of x t p.last.first p.last.second)
      here = ap (line_at s) count ∙ found (length p.lines) refl p.last.line

  -- The rules pass a certificate exactly if it is proper, and then it claims what it proves.
  pub judged_proper : (c : Claimed) → judged g.rule g.variables input x s ≡ accepted c → (t : Result) × (c ≡ claimed x t) × Proper g input s x t
  unfolding judged
  judged_proper c e =
      let same = accepted_same _ (certificate_order s) (claim_of (line_at s (lines s))) c e in
      let y = proper_of (judged_passes c e) in
      (y.0, sym same ∙ y.1, y.2)

  pub proper_judged : (t : Result) → Proper g input s x t → judged g.rule g.variables input x s ≡ accepted (claimed x t)
  unfolding last_found
  proper_judged t p =
      let y = passes_of t p in
      let k = y.0 in
      judged_parts g.rule g.variables input x s k.whole
      ∙ rw (← ends g.rule g.variables input s (lines s) k.passed, k.last) (ap accepted y.1)
