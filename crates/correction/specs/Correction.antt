-- Document 02, orders 4 and 10, "One letter corrected", "The uncorrected entry shown too": the promise of a correction. Assumes nothing.
use Rattle.std.specs.Prelude.{List, ℕ, ◌+◌, length, Result}
use Rattle.schema.specs.Derivation.{◌at◌}
use Rattle.finish.specs.Reply.{told}
use Rattle.grammar.specs.declared.refusal.Refusal.{Refusal}
use Rattle.finish.specs.declared.Answer.{Answer}
use Rattle.kept.specs.Kept.{retained}
use Rattle.correction.specs.Call.{KeptOf, Replies}
use Rattle.correction.specs.Refusals.{correctable}

-- The promise of a correction: "It blanks cells at places up to c, retains the others and asks the question." Order 10: "The correcting call now takes the
-- old entry as well and tests it": where the call is accepted, the two differ at c at most. "The table must still come from it and this sheet": that
-- is not tested, and more is promised only of a kept table of the old input.
abbrev pub CorrectionPromise : List ℕ → List ℕ → List ℕ → ℕ → ℕ → ℕ → List ℕ → List ℕ → List ℕ → List ℕ → Result Answer Refusal → Type 0
CorrectionPromise sheet old input A p c table table' work work' r =
    Replies (correctable sheet old input (A at p) c table (length work)) input (A at p) (KeptOf old table) (retained (c + 1) (length input) table)
    table table' work work' (told r)
