-- The promise of the functions that test what a call is handed, up to its slices. Assumes nothing.
use Rattle.std.specs.Prelude.{List, ◌≡◌, ℕ, Result}
use Rattle.grammar.specs.Promise.{told, line_one, stored}
use Rattle.grammar.specs.Sheet.{sheet}
use Rattle.grammar.specs.declared.refusal.Refusal.{Refusal}
use Rattle.grammar.specs.declared.sheet.Grammar.{Grammar}
use Rattle.schema.specs.Derivation.{◌at◌}
use Rattle.schema.specs.Handed.{Handed, asked, handed}

-- Line 1 of the sheet or the first refusal of a call that is handed h; the array as the sheet reader leaves it.
pub record Admits (s : List ℕ) (h : Handed) (before after : List ℕ) (r : Result Grammar Refusal) : Type 0 where
  pub says : told r ≡ line_one (handed s h)
  pub stores : after ≡ stored (sheet s) before

-- Of what every question is handed: refusals 1 to 6, 8 and 9.
abbrev pub Admission : List ℕ → List ℕ → ℕ → ℕ → List ℕ → List ℕ → Result Grammar Refusal → Type 0
Admission s input A p before after r = Admits s (asked input (A at p)) before after r
