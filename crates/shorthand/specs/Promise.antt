-- Document 02, order 1: what `compile` promises. Assumes nothing.
use Rattle.std.specs.Prelude.{List, Result, ◌++◌, ◌≡◌, ℕ, ◌+◌, ◌*◌, ◌≤◌, ◌<◌, length, drop}
use Rattle.grammar.specs.Numbers.{checked_as}
use Rattle.grammar.specs.Refusal.{Checked, refused, accepted}
use Rattle.grammar.specs.Words.{rule_in}
use Rattle.grammar.specs.declared.refusal.Refusal.{Refusal}
use Rattle.notation.specs.Judged.{judged}
use Rattle.notation.specs.SheetOf.{SheetOf}
use Rattle.notation.specs.Text.{Line}
use Rattle.pieces.specs.Store.{Few}
use Rattle.pieces.specs.declared.Piece.{Piece}
use Rattle.printing.specs.Listing.{SheetPut}

-- What the answer says: "a sheet, whose length is returned"; or a number and a line.
abbrev pub told : Result ℕ Refusal → Checked ℕ
told = checked_as (λ n. n)

-- The first refusal, with the output as it was; or a sheet of the lines at the front of the output: "output beyond what is written is unchanged".
abbrev pub Compiles : Checked (List Line) → List ℕ → List ℕ → Checked ℕ → Type 0
Compiles (refused number line) out out' r = (r ≡ refused number line) × (out' ≡ out)
Compiles (accepted ls) out out' r = (s : List ℕ) × SheetOf ls s × (r ≡ accepted (length s)) × (out' ≡ s ++ drop (length s) out)

-- The promise of `compile`.
abbrev pub CompilePromise : List ℕ → List ℕ → List ℕ → Result ℕ Refusal → Type 0
CompilePromise s out out' r = Compiles (judged s (length out)) out out' (told r)

-- ---- The last step: a text is read, its rules are stored.

-- Within the allowance there are as many variables at most.
pub record EndReady (text : Piece) : Type 0 where
  pub few : Few text
  pub within : text.cost ≤ 256 → text.last ≤ text.cost

-- "then 17 the allowance is over 256; then 11 for an output under 26 times (allowance + 1)"; else the sheet of the rules.
pub record Ends (text : Piece) (ws out out' : List ℕ) (r : Result ℕ Refusal) : Type 0 where
  pub over : 256 < text.cost → (told r ≡ refused 17 0) × (out' ≡ out)
  pub short : text.cost ≤ 256 → length out < 26 * (text.cost + 1) → (told r ≡ refused 11 0) × (out' ≡ out)
  pub writes : text.cost ≤ 256 → 26 * (text.cost + 1) ≤ length out → (n : ℕ) × (told r ≡ accepted n) × SheetPut text.last 1 46 (rule_in ws) out out' n
