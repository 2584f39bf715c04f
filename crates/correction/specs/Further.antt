-- Document 02, order 8, "Two societies on one page": the promise of a further question. Assumes nothing.
use Rattle.std.specs.Prelude.{List, ℕ, length, Result}
use Rattle.schema.specs.Derivation.{◌at◌}
use Rattle.schema.specs.Table.{contents}
use Rattle.finish.specs.Reply.{told}
use Rattle.grammar.specs.declared.refusal.Refusal.{Refusal}
use Rattle.finish.specs.declared.Answer.{Answer}
use Rattle.correction.specs.Call.{KeptOf, Replies}
use Rattle.correction.specs.Refusals.{askable}

-- The promise of a further question, which "blanks nothing".
abbrev pub FurtherPromise : List ℕ → List ℕ → ℕ → ℕ → List ℕ → List ℕ → List ℕ → List ℕ → Result Answer Refusal → Type 0
FurtherPromise sheet input A p table table' work work' r =
    Replies (askable sheet input (A at p) table (length work)) input (A at p) (KeptOf input table) (contents (length input) table) table table' work work' (told r)
