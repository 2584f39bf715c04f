-- The first line and what stands behind it, back in the output. Assumes nothing.
use mathlib.Core.List.{List, [], ◌∷◌, ◌++◌, append-nil, append_assoc}
use mathlib.Core.Path.{◌≡◌, refl, sym, ap, ◌∙◌}
use Prim.Native.Nat.{ℕ, ◌+◌, ◌-◌, ◌≤◌}
use native.Mathlib.Omega.{arith}
use lib.ListN.{length, get_or, take, drop, length-append, drop_of_length-le}
use lib.Seq.{take_all, take_at, drop_at, drop-drop}
use borrow.Rule.Slice.PartMut.{put_mid, mid_of, post_of}
use Rattle.std.specs.Prelude.{Result as Results, Ok, Err}
use Rattle.grammar.specs.declared.refusal.Refusal.{Refusal}
use Rattle.verdict.specs.Verdict.{numbers}
use Rattle.verdict.specs.declared.Judgement.{Judgement}
use Rattle.verdict.specs.declared.Judgement.TheVariants.{Recognised, Partial, Failure, Loop, Missing}

-- The four numbers of a verdict, one by one.
pub four_numbers : (j : Results Judgement Refusal) → get_or (numbers j) 0 0 ∷ get_or (numbers j) 1 0 ∷ get_or (numbers j) 2 0 ∷ get_or (numbers j) 3 0 ∷ [] ≡ numbers j
four_numbers (Ok (Recognised q count)) = refl
four_numbers (Ok (Partial q count)) = refl
four_numbers (Ok (Failure count)) = refl
four_numbers (Ok (Loop A p count)) = refl
four_numbers (Ok (Missing A p count)) = refl
four_numbers (Err e) = refl

module _ (out line : List ℕ) (size : length line ≡ 33) where
  abbrev pub begun : List ℕ
  begun = line ++ post_of 0 33 out

  abbrev rest : List ℕ
  rest = drop 33 out

  abbrev left : ℕ
  left = length (line ++ post_of 0 33 out) - 33

  left_is : left ≡ length rest
  left_is = let n = length-append line rest in omega arith

  -- What is lent for the certificate: all behind the first line.
  pub lent_is : mid_of 33 (length (line ++ post_of 0 33 out) - 33) (line ++ post_of 0 33 out) ≡ drop 33 out
  lent_is =
      let e = left_is in
      let l : length rest ≤ left = omega arith in
      ap (take left) (drop_at line rest 33 size) ∙ take_all left rest l

  -- It comes back.
  pub joined : (ys bytes : List ℕ) → ys ≡ bytes ++ drop (length bytes) (drop 33 out)
      → put_mid 33 (length (line ++ post_of 0 33 out) - 33) (line ++ post_of 0 33 out) ys ≡ (line ++ bytes) ++ drop (length (line ++ bytes)) out
  joined ys bytes e =
      let q = left_is in
      let l : length rest ≤ left = omega arith in
      let none : drop left (drop 33 (line ++ rest)) ≡ [] = ap (drop left) (drop_at line rest 33 size) ∙ drop_of_length-le rest l in
      let behind : drop (length (line ++ bytes)) out ≡ drop (length bytes) rest =
      ap (λ (k : ℕ). drop k out) (length-append line bytes ∙ ap (λ (k : ℕ). k + length bytes) size) ∙ sym (drop-drop (length bytes) 33 out) in
      rw (take_at line rest 33 size, none, append-nil ys, behind, e) (sym (append_assoc line bytes (drop (length bytes) rest)))
