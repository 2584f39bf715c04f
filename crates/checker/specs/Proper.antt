-- Demand 2 for readings: "each line follows from a rule and earlier lines and the last is the pair in question". Assumes nothing.
use Rattle.std.specs.Prelude.{List, [], ◌∷◌, ◌++◌, ◌≡◌, ℕ, suc, ◌*◌, ◌<◌, length}
use Rattle.std.specs.Prelude.{Result as Answer}
use Rattle.std.proofs.Math.ListN.{get_elem?}
use Rattle.grammar.specs.Refusal.{accepted}
use Rattle.grammar.specs.Sheet.{Grammar}
use Rattle.schema.specs.Derivation.{Pair, ◌at◌, Result, success, failure}
use Rattle.schema.specs.Line.{Line, Stands, Follows}
use Rattle.checker.specs.Checker.{line_at, Claimed, succeeds, fails, told}
use Rattle.checker.specs.declared.Claim.{Claim}
use Rattle.checker.specs.declared.Rejection.{Rejection}

-- The certificate is these lines.
pub record Reads (s : List ℕ) (ls : List Line) : Type 0 where
  pub size : length s ≡ 49 * length ls
  pub line : (i : ℕ) → i < length ls → line_at s (suc i) ≡ get_elem? ls i

-- "each line follows from a rule and earlier lines"
pub data EachFollows (g : Grammar) (input : List ℕ) : List Line → Type 0 where
  no_line : EachFollows g input []
  one_more : {earlier : List Line} {l : Line} → EachFollows g input earlier → Follows g.rule g.variables input earlier l
      → EachFollows g input (earlier ++ l ∷ [])

-- A certificate that the pair x has the result t.
pub record Proper (g : Grammar) (input s : List ℕ) (x : Pair) (t : Result) : Type 0 where
  pub lines : List Line
  pub reads : Reads s lines
  pub each : EachFollows g input lines
  -- "and the last is the pair in question"
  pub last : Stands lines (length lines) x t

-- What a certificate that the pair has a result claims: "the outcome and end in the last line", on failure "the start".
abbrev pub claimed : Pair → Result → Claimed
claimed (A at p) (success q) = succeeds q
claimed (A at p) failure = fails p

-- The answer passes the certificate, which claims the result t of the pair x.
abbrev pub Claims : Answer Claim Rejection → Pair → Result → Type 0
Claims r x t = told r ≡ accepted (claimed x t)
