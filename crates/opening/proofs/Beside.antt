-- The opening beside the verdict. Assumes nothing.
use mathlib.Core.Bool.{Bool, true, false, cond, true≢false}
use mathlib.Core.List.{List}
use mathlib.Core.Logic.{◌≢◌}
use mathlib.Core.Option.{Option, none, some}
use mathlib.Core.Path.{◌≡◌, refl, sym, ap, ◌∙◌, subst}
use Prim.Native.Nat.{ℕ}
use native.Mathlib.Omega.{arith}
use lib.Dec.{eqb}
use lib.ListN.{length, get_or}
use Rattle.std.specs.Prelude.{Result, Option as Maybe}
use Rattle.grammar.specs.declared.refusal.Refusal.{Refusal}
use Rattle.grammar.specs.Refusal.{Checked, refused, accepted}
use Rattle.grammar.specs.Rule.{Rule}
use Rattle.grammar.specs.Sheet.{Grammar}
use Rattle.schema.specs.Derivation.{Pair, ◌at◌, success, failure, missing, Outcome, result, stopped, loop, Has, Loops}
use Rattle.schema.specs.Handed.{handed, verdict_of}
use Rattle.schema.specs.Verdict.{verdict_code}
use Rattle.schema.proofs.Codes.{verdict_code_most}
use Rattle.schema.proofs.Laws.{has_one}
use Rattle.finish.specs.Reply.{reply}
use Rattle.verdict.specs.Verdict.{numbers, judged, Judges, VerdictPromise}
use Rattle.verdict.specs.declared.Judgement.{Judgement}
use Rattle.opening.specs.Beside.{code_in, BesideVerdict}
use Rattle.opening.specs.Opening.{LoopOpening, told, Finds, OpeningPromise}
use Rattle.opening.proofs.Promised.{left_one}

-- Only loop has the code 2.
code_loop : (n : ℕ) (o : Outcome) → verdict_code n o ≡ 2 → o ≡ loop
code_loop n (result (success q)) e = absurd (by_end (eqb q n) e)
  where
    by_end : (b : Bool) → ◌≡◌ {A = ℕ} (cond b 0 5) 2 → ⊥
    by_end true f = omega arith
    by_end false f = omega arith
code_loop n (result failure) e = absurd (omega arith)
code_loop n (stopped missing) e = absurd (omega arith)
code_loop n loop e = refl

first_code : (n : ℕ) (o : Outcome) (z : Pair) (count : ℕ) → get_or (judged n (accepted (reply o z count))) 0 0 ≡ verdict_code n o
first_code n o (A at p) count = refl

module _ {table' table'' : List ℕ} (r : Result (Maybe ℕ) Refusal) (j : Result Judgement Refusal) where
  -- Both are refused.
  refused_beside : (n : ℕ) {x l : ℕ} → told r ≡ refused x l → numbers j ≡ judged n (refused x l) → table' ≡ table'' → BesideVerdict table' table'' r j
  refused_beside n {x} {l} e f same =
      let c : code_in j ≡ 9 = ap (λ (z : List ℕ). get_or z 0 0) f in
      record {
        least_exactly = (λ p. let q = p.1 in absurd (true≢false (cc)), λ p. absurd (omega arith));
        none_exactly = (λ p. absurd (true≢false (cc)), λ p. absurd (p.1 c));
        refused_exactly = λ z k. (
          λ p. let h : refused x l ≡ refused z k = sym e ∙ p in let a : x ≡ z = cc in let b : l ≡ k = cc in rw (← a, ← b) f,
          λ p. let h = sym f ∙ p in
              let a : x ≡ z = ap (λ (t : List ℕ). get_or t 1 0) h in
              let b : l ≡ k = ap (λ (t : List ℕ). get_or t 2 0) h in
              rw (← a, ← b) e,
        );
        same_table = same;
      }

  -- Both are answered.
  module _ (rule : ℕ → Rule) (input : List ℕ) (x : Pair) (a : Option ℕ) (o : Outcome) (said : LoopOpening rule input x a) (has : Has rule input x o)
      (tells : told r ≡ accepted a) (z : Pair) (count : ℕ) (says : numbers j ≡ judged (length input) (accepted (reply o z count))) (same : table' ≡ table'') where
    code_is : code_in j ≡ verdict_code (length input) o
    code_is = ap (λ (l : List ℕ). get_or l 0 0) says ∙ first_code (length input) o z count

    loops_when : code_in j ≡ 2 → Loops rule input x
    loops_when e = subst (Has rule input x) (code_loop (length input) o (sym code_is ∙ e)) has

    code_when : Loops rule input x → code_in j ≡ 2
    code_when l = code_is ∙ ap (verdict_code (length input)) (has_one rule input x o loop has l)

    not_nine : code_in j ≢ 9
    not_nine e = let c = code_is in let m = verdict_code_most (length input) o in omega arith

    answered_beside : BesideVerdict table' table'' r j
    answered_beside = record {
      least_exactly = (
        λ p. code_when (subst (LoopOpening rule input x) (same_answer (sym tells ∙ p.1)) said).0,
        λ e. by_answer a refl e,
      );
      none_exactly = (
        λ p. (λ e. subst (LoopOpening rule input x) (same_answer (sym tells ∙ p)) said (loops_when e), not_nine),
        λ p. by_none a refl p.0,
      );
      refused_exactly = λ y l. (λ p. absurd (true≢false (cc)), λ p. absurd (not_nine (ap (λ (l : List ℕ). get_or l 0 0) p)));
      same_table = same;
    }
      where
        same_answer : {b c : Option ℕ} → accepted b ≡ accepted c → b ≡ c
        same_answer e = cc

        by_answer : (b : Option ℕ) → a ≡ b → code_in j ≡ 2 → (m : ℕ) × (told r ≡ accepted (some m))
        by_answer (some m) e c = (m, tells ∙ ap accepted e)
        by_answer none e c = absurd (subst (LoopOpening rule input x) e said (loops_when c))

        by_none : (b : Option ℕ) → a ≡ b → code_in j ≢ 2 → told r ≡ accepted none
        by_none (some m) e c = absurd (c (code_when (subst (LoopOpening rule input x) e said).0))
        by_none none e c = tells ∙ ap accepted e

-- Of any results of both calls.
module _ (s input table work : List ℕ) where
  pub as_verdict : (table' table'' work' work'' : List ℕ) (r : Result (Maybe ℕ) Refusal) (j : Result Judgement Refusal) → OpeningPromise s input table table' work work' r
      → VerdictPromise s input table table'' work work'' j → BesideVerdict table' table'' r j
  as_verdict table' table'' work' work'' r j one other = by_sheet (handed s (verdict_of input (length table) (length work))) one other
    where
      by_sheet : (o : Checked Grammar) → Finds o input table table' work work' (told r) → Judges o input table table'' work work'' (numbers j)
          → BesideVerdict table' table'' r j
      by_sheet (refused x l) m k = refused_beside r j (length input) m.0 k.0 (m.1 ∙ sym k.1)
      by_sheet (accepted g) m k =
          let a = m.2 in
          let b = k.2.2 in
          answered_beside r j g.rule input (g.start at 0) m.0 b.outcome a.said b.has m.1 b.named _
          (k.1 ∙ ap (judged (length input)) (k.2.1 ∙ ap accepted b.says))
          (left_one a.leaves b.leaves)
