-- What holds of a text that is accepted: it has one reading, and becomes a sheet. Assumes nothing.
use mathlib.Core.List.{List, []}
use mathlib.Core.Logic.{◌↔◌}
use mathlib.Core.Path.{◌≡◌, refl, ap, ◌∙◌}
use Prim.Native.Nat.{ℕ, ◌≤◌}
use lib.ListN.{length}
use Rattle.grammar.specs.Refusal.{accepted}
use Rattle.grammar.specs.Rule.{Rule}
use Rattle.notation.specs.Text.{Line, lines_text, firsts, letters, allowance}
use Rattle.notation.specs.Form.{Bytes, LinesForm}
use Rattle.notation.specs.Scan.{lines_of}
use Rattle.notation.specs.Emit.{Rules, rules, stored}
use Rattle.notation.specs.Capitals.{capitals}
use Rattle.notation.specs.SheetOf.{SheetOf}
use Rattle.notation.proofs.Read.{lines_read}
use Rattle.notation.proofs.Written.{lines_told}
use Rattle.notation.proofs.Capitals.{lines_capitals}
use Rattle.notation.proofs.FewLetters.{letters_few}
use Rattle.notation.proofs.Assembled.{Assembled, assembled}

-- An accepted text is written of its lines, and they are of the form.
lines_written : (s : List ℕ) (ls : List Line) → Bytes s → lines_of s ≡ accepted ls → (s ≡ lines_text ls) × LinesForm ls
lines_written s ls u e = rw e at (lines_told s u)

-- A text is accepted with these lines exactly if it is written of them and they are of the form.
pub accepted_exactly : (s : List ℕ) (ls : List Line) → Bytes s → lines_of s ≡ accepted ls ↔ ((s ≡ lines_text ls) × LinesForm ls)
accepted_exactly s ls u = (lines_written s ls u, λ w. ap lines_of w.0 ∙ lines_read ls w.1)

-- So lines of the form that are written alike are the same: a text has one reading.
pub one_reading : (ks ls : List Line) → LinesForm ks → LinesForm ls → lines_text ks ≡ lines_text ls → ks ≡ ls
one_reading ks ls f g e =
    let p : lines_of (lines_text ks) ≡ accepted ks = lines_read ks f in
    let q : lines_of (lines_text ks) ≡ accepted ls = ap lines_of e ∙ lines_read ls g in
    cc

module _ (s : List ℕ) (ls : List Line) (u : Bytes s) (e : lines_of s ≡ accepted ls) where
  of_form : LinesForm ls
  of_form = (lines_written s ls u e).1

  -- The letters of an accepted text, by its bytes alone; at most 26.
  pub text_letters : firsts [] (capitals s) ≡ letters ls
  unfolding letters
  text_letters = ap (λ (t : List ℕ). firsts [] (capitals t)) (lines_written s ls u e).0 ∙ ap (firsts []) (lines_capitals ls of_form.each_line)

  pub few_letters : length (letters ls) ≤ 26
  few_letters = rw text_letters at (letters_few s)

  -- What the lines store: rules within the allowance that are a sheet of the lines.
  pub text_assembled : (f : ℕ → Rule) (n : ℕ) → stored ls ≡ rules f n → Assembled ls f n
  text_assembled f n r = assembled ls of_form f n r

  -- Every text within the allowance becomes a sheet.
  pub every_text : allowance ls ≤ 256 → (t : List ℕ) × SheetOf ls t
  every_text few = go (stored ls) refl
    where
      go : (z : Rules) → stored ls ≡ z → (t : List ℕ) × SheetOf ls t
      go (rules f n) r = (_, (text_assembled f n r).becomes few)
