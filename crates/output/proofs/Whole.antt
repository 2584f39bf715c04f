-- The promise of the output, from what its parts did. Assumes nothing.
use mathlib.Core.List.{List, [], ◌∷◌, ◌++◌}
use mathlib.Core.Path.{◌≡◌, sym, ap, ◌∙◌, subst}
use Prim.Native.Nat.{ℕ, ◌+◌, ◌-◌, ◌*◌, ◌≤◌}
use native.Mathlib.Omega.{arith}
use lib.ListN.{length, get_or, drop, length-drop, length-append}
use borrow.Rule.Slice.PartMut.{put_mid, mid_of, post_of}
use Rattle.std.specs.Prelude.{Result as Results}
use Rattle.grammar.specs.declared.refusal.Refusal.{Refusal}
use Rattle.columns.specs.Column.{row}
use Rattle.columns.proofs.Rows.{row_length}
use Rattle.verdict.specs.Verdict.{numbers, VerdictPromise}
use Rattle.verdict.specs.declared.Judgement.{Judgement}
use Rattle.output.specs.Output.{Certificate, Puts}
use Rattle.output.proofs.Printed.{behind}
use Rattle.output.proofs.Joined.{four_numbers, lent_is, joined}

module _ (s input table table' work work' out : List ℕ) (j : Results Judgement Refusal) (e : length table ≡ 2048) (f : length work ≡ 1024)
    (promise : VerdictPromise s input table table' work work' j) (room : 50209 ≤ length out) (four line : List ℕ) (four_are : four ≡ numbers j)
    (line_is : line ≡ row 8 (get_or four 0 0 ∷ get_or four 1 0 ∷ get_or four 2 0 ∷ get_or four 3 0 ∷ [])) where
  size : length line ≡ 33
  size = ap length line_is ∙ row_length 8 _

  first : line ≡ row 8 (numbers j)
  first =
      line_is ∙ ap (λ (xs : List ℕ). row 8 (get_or xs 0 0 ∷ get_or xs 1 0 ∷ get_or xs 2 0 ∷ get_or xs 3 0 ∷ [])) four_are ∙ ap (row 8) (four_numbers j)

  pub output_put : (ys : List ℕ) (count tables works : ℕ) → tables ≡ 2048 → works ≡ 1024
      → Certificate s input (get_or four 0 0) tables works (mid_of 33 (length (line ++ post_of 0 33 out) - 33) (line ++ post_of 0 33 out)) ys count
      → Puts s input out (put_mid 33 (length (line ++ post_of 0 33 out) - 33) (line ++ post_of 0 33 out) ys) (33 + 49 * count)
  output_put ys count tables works p q certificate =
      let k =
      behind s input table table' work work' j e f promise (drop 33 out) ys count (ap (λ (xs : List ℕ). get_or xs 0 0) four_are) p q
      (subst (λ (o : List ℕ). Certificate s input (get_or four 0 0) tables works o ys count) (lent_is out line size) certificate) (simp length-drop (omega arith)) in
      let c = k.size in
      let n = length-append (row 8 (numbers j)) k.bytes in
      let m : length (row 8 (numbers j)) ≡ 33 = ap length (sym first) ∙ size in (
        row 8 (numbers j) ++ k.bytes,
        k.printing,
        omega arith,
        joined out line size ys k.bytes k.put ∙ ap (λ (xs : List ℕ). (xs ++ k.bytes) ++ drop (length (xs ++ k.bytes)) out) first,
      )
