-- Document 01, "Readings": the lines of a certificate (document 01: a reading), and when a line follows. Assumes nothing.
use Rattle.std.specs.Prelude.{List, [], ◌∷◌, ◌++◌, ◌≡◌, ℕ, zero, suc, length}
use Rattle.std.proofs.Math.Option.{Option, none, some}
use Rattle.std.proofs.Math.ListN.{get_elem?}
use Rattle.columns.specs.Column.{row}
use Rattle.grammar.specs.Rule.{Rule}
use Rattle.schema.specs.Derivation.{Pair, ◌at◌, Result, success, failure, gives, calls, act, second}
use Rattle.schema.specs.Table.{Within}

-- "six fields": "variable, start, 0 success or 1 failure, end .., the lines of the first and the second called pair".
pub data Line : Type 0 where
  line : ℕ → ℕ → ℕ → ℕ → ℕ → ℕ → Line

-- The line of a pair with a result, from the lines i and j: "end (the start on failure)".
abbrev pub line_of : Pair → Result → ℕ → ℕ → Line
line_of (A at p) (success q) i j = line A p 0 q i j
line_of (A at p) failure i j = line A p 1 p i j

-- "six fields of 8 columns and byte 10 (49 bytes)"
abbrev pub line_bytes : Line → List ℕ
line_bytes (line A p flag e i j) = row 8 (A ∷ p ∷ flag ∷ e ∷ i ∷ j ∷ [])

-- Lines one after another.
unfoldable pub lines_bytes : List Line → List ℕ
lines_bytes [] = []
lines_bytes (l ∷ ls) = line_bytes l ++ lines_bytes ls

-- The line of a number, "counted from 1".
abbrev pub numbered : List Line → ℕ → Option Line
numbered ls zero = none
numbered ls (suc i) = get_elem? ls i

-- Line i is that of the pair x, with the result r.
pub record Stands (ls : List Line) (i : ℕ) (x : Pair) (r : Result) : Type 0 where
  pub first : ℕ
  pub second : ℕ
  pub line : numbered ls i ≡ some (line_of x r first second)

-- "A line follows if its variable and start are a pair and it is given by a leaf rule, or by kind 4 from earlier lines that are the called pairs";
-- "both 0 for a leaf".
pub data Follows (rule : ℕ → Rule) (v : ℕ) (input : List ℕ) (earlier : List Line) (l : Line) : Type 0 where
  by_leaf : {A p : ℕ} {r : Result} → Within v (length input) A p → act rule input (A at p) ≡ gives r
      → l ≡ line_of (A at p) r 0 0 → Follows rule v input earlier l
  by_call : {A B C D p i j : ℕ} {r t : Result} → Within v (length input) A p → act rule input (A at p) ≡ calls B C D
      → Stands earlier i (B at p) t → Stands earlier j (second C D p t) r → l ≡ line_of (A at p) r i j → Follows rule v input earlier l
