-- The opening beside the verdict, of any results of the two calls on the same sheet, input and slices. Assumes nothing.
use Rattle.std.specs.Prelude.{List, [], ◌∷◌, ◌≢◌, ◌↔◌, ◌≡◌, ℕ, get_or, Result, Option as Maybe}
use Rattle.std.proofs.Math.Option.{none, some}
use Rattle.grammar.specs.Refusal.{refused, accepted}
use Rattle.grammar.specs.declared.refusal.Refusal.{Refusal}
use Rattle.verdict.specs.Verdict.{numbers}
use Rattle.verdict.specs.declared.Judgement.{Judgement}
use Rattle.opening.specs.Opening.{told}

-- A verdict's code: "2 loop", "9 refused".
abbrev pub code_in : Result Judgement Refusal → ℕ
code_in j = get_or (numbers j) 0 0

-- The opening r leaves table', the verdict j leaves table''.
pub record BesideVerdict (table' table'' : List ℕ) (r : Result (Maybe ℕ) Refusal) (j : Result Judgement Refusal) : Type 0 where
  -- "For a looping verdict, give the least m"
  pub least_exactly : ((m : ℕ) × (told r ≡ accepted (some m))) ↔ (code_in j ≡ 2)
  -- "Other verdicts have no such opening."
  pub none_exactly : (told r ≡ accepted none) ↔ ((code_in j ≢ 2) × (code_in j ≢ 9))
  -- One is refused exactly where the other is, with the same number and line.
  pub refused_exactly : (x l : ℕ) → (told r ≡ refused x l) ↔ (numbers j ≡ 9 ∷ x ∷ l ∷ 0 ∷ [])
  -- "The table ends as the verdict leaves it."
  pub same_table : table' ≡ table''
