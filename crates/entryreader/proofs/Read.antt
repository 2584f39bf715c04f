-- The exported sheet call's numbers. Assumes nothing.
use mathlib.Core.List.{List}
use mathlib.Core.Path.{◌≡◌, refl, sym, ap, ◌∙◌, subst}
use Prim.Native.Nat.{ℕ, ◌<◌}
use native.Mathlib.Omega.{arith}
use Rattle.grammar.specs.Promise.{told, line_one, SheetPromise}
use Rattle.grammar.specs.Refusal.{Checked, refused, accepted}
use Rattle.grammar.specs.Sheet.{Grammar, grammar_of, condition, sheet_order, sheet}
use Rattle.std.specs.Prelude.{Result}
use Rattle.grammar.specs.declared.refusal.Refusal.{Refusal}
use Rattle.grammar.specs.declared.sheet.Grammar.{Grammar as Header}
use Rattle.grammar.proofs.Refusals.{refused_each}
use Rattle.grammar.proofs.SheetRefusals.{sheet_numbers_law}
use Rattle.schema.specs.Exported.{returned, Fits}
use Rattle.entryreader.specs.Codes.{sheet_numbers, SheetNumbers}

-- The number of a sheet's refusal is below 6.
sheet_small : (s : List ℕ) (x l : ℕ) → sheet s ≡ refused x l → x < 6
unfolding sheet
sheet_small s x l e = refused_each (λ y. y < 6) (condition s) (sheet_order s) (grammar_of s) x l (sheet_numbers_law s) e

-- What is returned depends on the refusal only.
line_returned : (o : Checked Grammar) → returned (line_one o) ≡ returned o
line_returned (refused x l) = refl
line_returned (accepted g) = refl

module _ (s before after : List ℕ) (r : Result Header Refusal) (promise : SheetPromise s before after r) where
  -- The number fits 32 bits.
  pub sheet_fits : Fits (λ (numbers : List ℕ). 0) (told r)
  sheet_fits = subst (Fits (λ (numbers : List ℕ). 0)) (sym promise.says) (by_sheet (sheet s) refl)
    where
      by_sheet : (o : Checked Grammar) → sheet s ≡ o → Fits (λ (numbers : List ℕ). 0) (line_one o)
      by_sheet (refused x l) e = let k = sheet_small s x l e in omega arith
      by_sheet (accepted g) e = omega arith

  -- The numbers of the answer are those of the definition.
  pub sheet_reported : (answer : List ℕ) (n : ℕ) → n ≡ returned (told r) → answer ≡ sheet_numbers (told r) → SheetNumbers s answer before after n
  sheet_reported answer n e f = record {
    returns = e ∙ ap returned promise.says ∙ line_returned (sheet s);
    reports = f ∙ ap sheet_numbers promise.says;
    stores = promise.stores;
  }
