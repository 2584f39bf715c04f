-- What the number of a cell says while a walk goes on, and what the table tells of pairs by it. Assumes nothing.
use Rattle.std.specs.Prelude.{Bool, true, false, cond, List, ◌⊎◌, ◌≢◌, ◌≡◌, ℕ, ◌+◌, ◌-◌, ◌*◌, max, ◌≤◌, ◌<◌, eqb, length}
use Rattle.grammar.specs.Rule.{Rule}
use Rattle.schema.specs.Cells.{held_at}
use Rattle.schema.specs.Closed.{Closed}
use Rattle.schema.specs.Derivation.{Pair, ◌at◌, Result, success, failure, gives, calls, act, second, result}
use Rattle.schema.specs.Examined.{leaf_reach_of}
use Rattle.schema.specs.Table.{Ends, cells, code, held, reach}

-- An open cell, of a pair that is asked and not decided yet, holds a number above every code.
abbrev pub open_mark : ℕ
open_mark = 4294967295

-- A cell that the walk still has to walk: blank, or kept from a loop or a missing rule.
pub record Unsettled (c : ℕ) : Type 0 where
  pub no_failure : c ≢ 1
  pub no_success : c < 5

-- A cell that holds the result r, on n bytes.
pub record Settled (n c : ℕ) (r : Result) : Type 0 where
  pub code_is : c ≡ code (result r)
  pub ends : Ends n r

-- The code of a cell is one of these numbers, or it is open.
abbrev pub Fits : ℕ → ℕ → Type 0
Fits n c = (c ≤ 5 + n) ⊎ (c ≡ open_mark)

-- x calls y, as far as the table T tells: first, or second.
pub data Called (rule : ℕ → Rule) (s T : List ℕ) : Bool → Pair → Pair → Type 0 where
  first_called : {A B C D p : ℕ} → act rule s (A at p) ≡ calls B C D → Called rule s T false (A at p) (B at p)
  second_called : {A B C D p : ℕ} {t : Result} → act rule s (A at p) ≡ calls B C D → Settled (length s) (held (length s) T (B at p)) t
      → Called rule s T true (A at p) (second C D p t)

-- x has the result r and the reach m, as far as the table T tells.
pub data Given (rule : ℕ → Rule) (s T : List ℕ) : Pair → Result → ℕ → Type 0 where
  by_leaf : {x : Pair} {r : Result} → act rule s x ≡ gives r → Given rule s T x r (leaf_reach_of rule x)
  by_calls : {A B C D p : ℕ} {t r : Result} → act rule s (A at p) ≡ calls B C D → Settled (length s) (held (length s) T (B at p)) t
      → Settled (length s) (held (length s) T (second C D p t)) r
      → Given rule s T (A at p) r (max (reach (length s) T (B at p)) (reach (length s) T (second C D p t)))

-- What is asked of the rules, the input and the table.
pub record Walkable (rule : ℕ → Rule) (s : List ℕ) (v : ℕ) (T : List ℕ) : Type 0 where
  pub few : v ≤ 256
  pub short : length s ≤ 4096
  pub closed : Closed v rule
  pub room : 2 * cells v (length s) ≤ length T
  pub fits : (i : ℕ) → i < cells v (length s) → Fits (length s) (held_at T i)

-- A cell that holds failure or success.
abbrev pub Code : ℕ → Type 0
Code c = (c ≡ 1) ⊎ (5 ≤ c)

-- The result that a cell's code stands for.
abbrev pub result_of : ℕ → Result
result_of c = cond (eqb c 1) failure (success (c - 5))

-- How many cells the next number of a cell decides: one where the cell is blank.
abbrev pub fresh : ℕ → ℕ
fresh c = cond (eqb c 0) 1 0
