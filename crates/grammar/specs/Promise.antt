-- The promise of the sheet reader. Assumes nothing.
use Rattle.std.specs.Prelude.{List, [], ◌∷◌, ◌≡◌, ℕ, Result, Ok, Err}
use Rattle.grammar.specs.Refusal.{Checked, refused, accepted}
use Rattle.grammar.specs.Sheet.{Grammar, sheet}
use Rattle.grammar.specs.Words.{words}
use Rattle.grammar.specs.Numbers.{number_of, line_of}
use Rattle.grammar.specs.declared.refusal.Refusal.{Refusal}
use Rattle.grammar.specs.declared.sheet.Grammar.{Grammar as Header}

-- What each case of the answer says: V, the start variable and the endmarker byte; or "its number and a line".
abbrev pub told : Result Header Refusal → Checked (List ℕ)
told (Ok g) = accepted (g.variables ∷ g.start ∷ g.endmarker ∷ [])
told (Err e) = refused (number_of e) (line_of e)

-- Line 1 of an accepted sheet, or the refusal.
abbrev pub line_one : Checked Grammar → Checked (List ℕ)
line_one (refused number line) = refused number line
line_one (accepted g) = accepted (g.variables ∷ g.start ∷ g.endmarker ∷ [])

-- The array afterwards: as it was, or with the rules of the accepted sheet.
abbrev pub stored : Checked Grammar → List ℕ → List ℕ
stored (refused number line) before = before
stored (accepted g) before = words g.rule

-- What the sheet reader promises: its answer, and the array.
pub record SheetPromise (s before after : List ℕ) (r : Result Header Refusal) : Type 0 where
  pub says : told r ≡ line_one (sheet s)
  pub stores : after ≡ stored (sheet s) before
