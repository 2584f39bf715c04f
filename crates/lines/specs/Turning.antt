-- What is next at a pair, once the question is answered. The work slice holds for each cell 0, a link to the pair that called its pair, or twice the
-- number of its line. Assumes nothing.
use Rattle.std.specs.Prelude.{List, ◌⊎◌, ◌≢◌, ◌≡◌, ℕ, ◌+◌, ◌*◌, ◌/◌, ◌≤◌, length, get_or}
use Rattle.grammar.specs.Rule.{Rule}
use Rattle.schema.specs.Closed.{Variable, Closed}
use Rattle.schema.specs.Derivation.{Pair, ◌at◌, Result, calls, act, second}
use Rattle.schema.specs.Table.{Within, cell, cells, held}
use Rattle.cells.specs.Packed.{packed}
use Rattle.step.specs.Codes.{Settled}
use Rattle.lines.specs.declared.Turn.{Turn}
use Rattle.lines.specs.declared.Turn.TheVariants as turn

-- The number that the work slice W holds for a pair, on n bytes.
abbrev pub number_of : ℕ → List ℕ → Pair → ℕ
number_of n W y = get_or W (cell n y) 0

-- The number that it holds for a pair called by x, and for the asked pair, which none called.
abbrev pub link : Pair → ℕ
link x = 2 * packed x + 1

abbrev pub no_link : ℕ
no_link = 1

-- ---- What is next at a pair.

-- A pair at p with a result calls b, which has a result too, then c or d.
pub record CallsReady (n p b c d : ℕ) (T W : List ℕ) : Type 0 where
  pub variables : ℕ
  pub few : variables ≤ 256
  pub short : n ≤ 4096
  pub room : 2 * cells variables n ≤ length T
  pub work_room : cells variables n ≤ length W
  pub position_in : p ≤ n
  pub b_in : Variable variables b
  pub c_in : Variable variables c
  pub d_in : Variable variables d
  pub found : Result
  pub first : Settled n (held n T (b at p)) found

-- The second called pair, z, is next if it has no line; else the caller's own line, with the numbers of both.
abbrev pub TurnsSecond : ℕ → List ℕ → ℕ → Pair → Turn → Type 0
TurnsSecond n W number z (turn.Down B q) = (z ≡ B at q) × (number_of n W z ≡ 0)
TurnsSecond n W number z (turn.Line i j) = (number_of n W z ≢ 0) × (i ≡ number / 2) × (j ≡ number_of n W z / 2)

-- The same from the first called pair on, y.
abbrev pub TurnsCalls : ℕ → List ℕ → Pair → Pair → Turn → Type 0
TurnsCalls n W y z (turn.Down B q) = ((y ≡ B at q) × (number_of n W y ≡ 0)) ⊎ ((number_of n W y ≢ 0) × (z ≡ B at q) × (number_of n W z ≡ 0))
TurnsCalls n W y z (turn.Line i j) = (number_of n W y ≢ 0) × (number_of n W z ≢ 0) × (i ≡ number_of n W y / 2) × (j ≡ number_of n W z / 2)

-- y is called by x and has no line.
pub data Lower (rule : ℕ → Rule) (s T W : List ℕ) : Pair → Pair → Type 0 where
  to_first : {A B C D p : ℕ} → act rule s (A at p) ≡ calls B C D → number_of (length s) W (B at p) ≡ 0 → Lower rule s T W (A at p) (B at p)
  to_second : {A B C D p : ℕ} {t : Result} → act rule s (A at p) ≡ calls B C D → Settled (length s) (held (length s) T (B at p)) t
      → number_of (length s) W (B at p) ≢ 0 → number_of (length s) W (second C D p t) ≡ 0 → Lower rule s T W (A at p) (second C D p t)

-- What x calls has lines, i and j; "both 0 for a leaf".
pub data Own (rule : ℕ → Rule) (s T W : List ℕ) : Pair → ℕ → ℕ → Type 0 where
  of_leaf : {x : Pair} → ((B C D : ℕ) → act rule s x ≢ calls B C D) → Own rule s T W x 0 0
  of_calls : {A B C D p : ℕ} {t : Result} → act rule s (A at p) ≡ calls B C D → Settled (length s) (held (length s) T (B at p)) t
      → number_of (length s) W (B at p) ≢ 0 → number_of (length s) W (second C D p t) ≢ 0
      → Own rule s T W (A at p) (number_of (length s) W (B at p) / 2) (number_of (length s) W (second C D p t) / 2)

-- What is next at x.
abbrev pub Turns : (ℕ → Rule) → List ℕ → List ℕ → List ℕ → Pair → Turn → Type 0
Turns rule s T W x (turn.Down B q) = Lower rule s T W x (B at q)
Turns rule s T W x (turn.Line i j) = Own rule s T W x i j

-- The pair A at p has a result in the table, and so has the first pair that it calls.
pub record TurnReady (rule : ℕ → Rule) (s : List ℕ) (v A p : ℕ) (T W : List ℕ) : Type 0 where
  pub few : v ≤ 256
  pub short : length s ≤ 4096
  pub closed : Closed v rule
  pub within : Within v (length s) A p
  pub room : 2 * cells v (length s) ≤ length T
  pub work_room : cells v (length s) ≤ length W
  pub found : Result
  pub settled : Settled (length s) (held (length s) T (A at p)) found
  pub first : (B C D : ℕ) → act rule s (A at p) ≡ calls B C D → (t : Result) × Settled (length s) (held (length s) T (B at p)) t
