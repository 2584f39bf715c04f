-- What any result that meets the contract of `compile` says. Assumes nothing.
use Rattle.std.specs.Prelude.{Result}
use mathlib.Core.Bool.{true≢false}
use mathlib.Core.List.{List}
use mathlib.Core.Logic.{◌↔◌}
use mathlib.Core.Path.{◌≡◌, refl, ap, ◌∙◌, subst}
use Prim.Native.Nat.{ℕ, ◌≤◌}
use native.Mathlib.Omega.{arith}
use lib.ListN.{length}
use Rattle.grammar.specs.Refusal.{Checked, refused, accepted}
use Rattle.grammar.specs.declared.refusal.Refusal.{Refusal}
use Rattle.grammar.proofs.Accepted.{describes}
use Rattle.grammar.proofs.Refusals.{refused_each}
use Rattle.notation.specs.Judged.{text_condition, text_order, TextRefuses, lines_in, judged}
use Rattle.notation.specs.Scan.{lines_of}
use Rattle.notation.specs.Text.{Line}
use Rattle.notation.proofs.TextRefusals.{text_refused}
use Rattle.shorthand.specs.Promise.{told, Compiles, CompilePromise}

module _ (s out out' : List ℕ) (r : Result ℕ Refusal) (promise : CompilePromise s out out' r) where
  given : (o : Checked (List Line)) → judged s (length out) ≡ o → Compiles o out out' (told r)
  given o e = subst (λ (o : Checked (List Line)). Compiles o out out' (told r)) e promise

  -- A refusal comes exactly where its condition is the first that holds,
  pub refused_exactly : (x l : ℕ) → told r ≡ refused x l ↔ TextRefuses s (length out) x l
  refused_exactly x l = (λ e. by_text e (judged s (length out)) refl, λ t. (given (refused x l) ((text_refused s (length out) x l).1 t)).0)
    where
      by_text : told r ≡ refused x l → (o : Checked (List Line)) → judged s (length out) ≡ o → TextRefuses s (length out) x l
      by_text e (refused y m) q =
          let g = (given (refused y m) q).0 in
          let number : y ≡ x = cc in
          let line : m ≡ l = cc in
          (text_refused s (length out) x l).0 (q ∙ ap (λ (z : ℕ). refused z m) number ∙ ap (refused x) line)
      by_text e (accepted ls) q = let g = (given (accepted ls) q).2 in absurd (true≢false (cc))

  -- and leaves the output as it was.
  pub then_unchanged : (x l : ℕ) → told r ≡ refused x l → out' ≡ out
  then_unchanged x l e = by_text (judged s (length out)) refl
    where
      by_text : (o : Checked (List Line)) → judged s (length out) ≡ o → out' ≡ out
      by_text (refused y m) q = (given (refused y m) q).1
      by_text (accepted ls) q = let g = (given (accepted ls) q).2 in absurd (true≢false (cc))

  -- Numbers go up to 17, lengths up to 257 lines.
  pub refusal_most : (x l : ℕ) → told r ≡ refused x l → x ≤ 17
  unfolding judged
  refusal_most x l e =
      let k = (refused_exactly x l).0 e in
      refused_each (λ n. n ≤ 17) (text_condition s (length out)) text_order (lines_in (lines_of s)) x l (omega arith) ((text_refused s (length out) x l).1 k)

  pub length_most : (n : ℕ) → told r ≡ accepted n → n ≤ 6682
  length_most n e = by_text (judged s (length out)) refl
    where
      by_text : (o : Checked (List Line)) → judged s (length out) ≡ o → n ≤ 6682
      by_text (refused y m) q = let g = (given (refused y m) q).0 in absurd (true≢false (cc))
      by_text (accepted ls) q =
          let g = given (accepted ls) q in
          let w = (describes g.0 g.1.grammar g.1.read).whole in
          let f = w.full_lines in
          let l = w.few_lines in
          let same : n ≡ length g.0 = let h = g.2 in cc in
          omega arith
