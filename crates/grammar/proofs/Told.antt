-- What the reader's answer says of the sheet. Assumes nothing.
use mathlib.Core.Bool.{true≢false}
use mathlib.Core.Path.{◌≡◌, refl, ap}
use Rattle.grammar.specs.Refusal.{Checked, refused, accepted}
use Rattle.grammar.specs.Sheet.{Grammar}
use Rattle.grammar.specs.Promise.{told, line_one}
use Rattle.grammar.specs.declared.sheet.Grammar.{Grammar as Line}
use Rattle.std.specs.Prelude.{Result, Ok, Err}
use Rattle.grammar.specs.Numbers.{number_of, line_of}
use Rattle.grammar.specs.declared.refusal.Refusal.{Refusal}

-- An accepted grammar, with the numbers of its line 1.
pub record Reads (o : Checked Grammar) (l : Line) : Type 0 where
  pub grammar : Grammar
  pub accepts : o ≡ accepted grammar
  pub variables_are : grammar.variables ≡ l.variables
  pub start_is : grammar.start ≡ l.start
  pub endmarker_is : grammar.endmarker ≡ l.endmarker

pub told_refused : (o : Checked Grammar) (r : Result Line Refusal) (n : Refusal) → told r ≡ line_one o → r ≡ Err n → o ≡ refused (number_of n) (line_of n)
told_refused (refused y m) r n e f = let u = ap told f in cc
told_refused (accepted g) r n e f = let u = ap told f in absurd (true≢false (cc))

pub told_read : (o : Checked Grammar) (r : Result Line Refusal) (l : Line) → told r ≡ line_one o → r ≡ Ok l → Reads o l
told_read (refused y m) r l e f = let u = ap told f in absurd (true≢false (cc))
told_read (accepted g) r l e f =
    let u = ap told f in
    record { grammar = g; accepts = refl; variables_are = cc; start_is = cc; endmarker_is = cc }

-- Line 1 as it was read.
pub line_says_law : {o : Checked Grammar} {l : Line} (t : Reads o l)
    → line_one (accepted t.grammar) ≡ told (Ok l)
line_says_law t = let a = t.variables_are in let b = t.start_is in let c = t.endmarker_is in cc
