-- Document 01, "Verdict asks the start variable at 0": the promise of a verdict. Assumes nothing.
use Rattle.std.specs.Prelude.{List, [], ◌∷◌, ◌≡◌, ℕ, length, Result, Ok, Err}
use Rattle.grammar.specs.Numbers.{number_of, line_of}
use Rattle.grammar.specs.Refusal.{Checked, refused, accepted}
use Rattle.grammar.specs.Sheet.{Grammar}
use Rattle.grammar.specs.declared.refusal.Refusal.{Refusal}
use Rattle.schema.specs.Derivation.{◌at◌, success, failure, Outcome, result, stopped, loop}
use Rattle.schema.specs.Handed.{handed, verdict_of}
use Rattle.schema.specs.Verdict.{verdict_code}
use Rattle.finish.specs.Reply.{Reply, reply}
use Rattle.memo.specs.Answer.{Says}
use Rattle.verdict.specs.declared.Judgement.{Judgement}
use Rattle.verdict.specs.declared.Judgement.TheVariants.{Recognised, Partial, Failure, Loop, Missing}

-- "code (0 recognised, 1 failure, 2 loop, 3 missing, .. 5 partial, 9 refused), named variable or refusal number,
-- place (end, named place, refused line, or 0), cells (0 if refused)": what each case of a verdict says.
abbrev pub numbers_by : {R : Type 0} → (R → ℕ) → (R → ℕ) → Result Judgement R → List ℕ
numbers_by number line (Ok (Recognised q count)) = 0 ∷ 0 ∷ q ∷ count ∷ []
numbers_by number line (Ok (Failure count)) = 1 ∷ 0 ∷ 0 ∷ count ∷ []
numbers_by number line (Ok (Loop A p count)) = 2 ∷ A ∷ p ∷ count ∷ []
numbers_by number line (Ok (Missing A p count)) = 3 ∷ A ∷ p ∷ count ∷ []
numbers_by number line (Ok (Partial q count)) = 5 ∷ 0 ∷ q ∷ count ∷ []
numbers_by number line (Err e) = 9 ∷ number e ∷ line e ∷ 0 ∷ []

-- The same of a verdict that is refused as the calls refuse.
abbrev pub numbers : Result Judgement Refusal → List ℕ
numbers = numbers_by number_of line_of

-- "place (end, named place .. or 0)"
abbrev pub position_for : Outcome → ℕ → ℕ
position_for (result (success q)) p = q
position_for (result failure) p = p
position_for (stopped w) p = p
position_for loop p = p

-- The numbers of a reply or a refusal, on n bytes.
abbrev pub judged : ℕ → Checked Reply → List ℕ
judged n (refused number line) = 9 ∷ number ∷ line ∷ 0 ∷ []
judged n (accepted (reply o (A at p) count)) = verdict_code n o ∷ A ∷ position_for o p ∷ count ∷ []

-- The first refusal, with both slices as they were, or the answer about the start variable at 0.
abbrev pub Judges : Checked Grammar → List ℕ → List ℕ → List ℕ → List ℕ → List ℕ → List ℕ → Type 0
Judges (refused number line) input table table' work work' r = (r ≡ judged (length input) (refused number line)) × (table' ≡ table) × (work' ≡ work)
Judges (accepted g) input table table' work work' r =
    (a : Checked Reply) × (r ≡ judged (length input) a) × Says g.rule g.variables input (g.start at 0) table table' work work' a

-- The promise of a verdict.
abbrev pub VerdictPromise : List ℕ → List ℕ → List ℕ → List ℕ → List ℕ → List ℕ → Result Judgement Refusal → Type 0
VerdictPromise sheet input table table' work work' r =
    Judges (handed sheet (verdict_of input (length table) (length work))) input table table' work work' (numbers r)
