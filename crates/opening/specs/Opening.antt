-- Document 02, order 7: the opening that already loops. An opening is a number of the input's first bytes: none, some or all. Assumes nothing.
use Rattle.std.specs.Prelude.{List, ◌≡◌, ℕ, ◌≤◌, ◌<◌, length, take, drop, Result, Ok, Err, Option as Maybe, Some, None}
use Rattle.std.proofs.Math.Option.{Option, none, some}
use Rattle.grammar.specs.Numbers.{number_of, line_of}
use Rattle.grammar.specs.Refusal.{Checked, refused, accepted}
use Rattle.grammar.specs.Rule.{Rule}
use Rattle.grammar.specs.Sheet.{Grammar}
use Rattle.grammar.specs.declared.refusal.Refusal.{Refusal}
use Rattle.schema.specs.Derivation.{Pair, ◌at◌, Loops}
use Rattle.schema.specs.Handed.{handed, verdict_of}
use Rattle.schema.specs.Table.{cells, blanked, Table}

-- "the least m such that the entry's first m bytes .. loop too"
pub record Shortest (rule : ℕ → Rule) (input : List ℕ) (x : Pair) (m : ℕ) : Type 0 where
  pub inside : m ≤ length input
  pub loops : Loops rule (take m input) x
  pub none_shorter : (j : ℕ) → j < m → Loops rule (take j input) x → ⊥

-- "For a looping verdict, give the least m"; order 11: "other verdicts get none, though an opening of theirs may loop".
abbrev pub LoopOpening : (ℕ → Rule) → List ℕ → Pair → Option ℕ → Type 0
LoopOpening rule input x (some m) = Loops rule input x × Shortest rule input x m
LoopOpening rule input x none = Loops rule input x → ⊥

-- The least number of bytes that is answered, or that there is none.
abbrev pub least_of : Maybe ℕ → Option ℕ
least_of (Some m) = some m
least_of None = none

-- What each case of the answer says.
abbrev pub told : Result (Maybe ℕ) Refusal → Checked (Option ℕ)
told (Ok m) = accepted (least_of m)
told (Err e) = refused (number_of e) (line_of e)

-- What is said, with the table and the work slice before and after it, which are left as a question about x on the input leaves them: "The table ends as
-- the verdict leaves it."
pub record Asked (Said : Type 0) (rule : ℕ → Rule) (v : ℕ) (input : List ℕ) (x : Pair) (table table' work work' : List ℕ) : Type 0 where
  pub said : Said
  pub leaves : Table rule input v x blanked table table'
  pub beyond : drop (cells v (length input)) work' ≡ drop (cells v (length input)) work
  pub size : length work' ≡ length work

-- An answer about x, and not a refusal.
abbrev pub Opens : (ℕ → Rule) → ℕ → List ℕ → Pair → List ℕ → List ℕ → List ℕ → List ℕ → Checked (Option ℕ) → Type 0
Opens rule v input x table table' work work' r =
    (a : Option ℕ) × (r ≡ accepted a) × Asked (LoopOpening rule input x a) rule v input x table table' work work'

-- The first refusal, which is the verdict's, with both slices as they were; or an answer, "asked at the start variable and place 0".
abbrev pub Finds : Checked Grammar → List ℕ → List ℕ → List ℕ → List ℕ → List ℕ → Checked (Option ℕ) → Type 0
Finds (refused number line) input table table' work work' r = (r ≡ refused number line) × (table' ≡ table) × (work' ≡ work)
Finds (accepted g) input table table' work work' r = Opens g.rule g.variables input (g.start at 0) table table' work work' r

-- The promise of the call. It is handed what the verdict is.
abbrev pub OpeningPromise : List ℕ → List ℕ → List ℕ → List ℕ → List ℕ → List ℕ → Result (Maybe ℕ) Refusal → Type 0
OpeningPromise sheet input table table' work work' r = Finds (handed sheet (verdict_of input (length table) (length work))) input table table' work work' (told r)
