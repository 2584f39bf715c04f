-- The passes over a table before it is asked over: what they ask, and what they promise. Cells at positions below a limit are blanked. Assumes nothing.
use Rattle.std.specs.Prelude.{Bool, true, false, List, Result, Ok, Err, ◌⊎◌, ◌≡◌, ℕ, ◌+◌, ◌*◌, ◌≤◌, ◌<◌, length, get_or, drop}
use Rattle.grammar.specs.declared.refusal.Refusal.{Refusal}
use Rattle.grammar.specs.declared.refusal.Refusal.TheVariants.{Cell}
use Rattle.schema.specs.Cells.{cell_at}
use Rattle.schema.specs.Derivation.{Pair, ◌at◌}
use Rattle.schema.specs.Table.{Within, cells, contents}
use Rattle.kept.specs.Kept.{kept}
use Rattle.kept.specs.Range.{out_of_range}
use Rattle.kept.specs.Some.{some}

-- Few variables, a short input, a limit that is one of its positions, and room for all cells.
pub record PassReady (v n limit : ℕ) (T : List ℕ) : Type 0 where
  pub few : v ≤ 256
  pub short : n ≤ 4096
  pub inside : limit ≤ n
  pub room : 2 * cells v n ≤ length T

-- Refusal 19, where a test says so.
abbrev pub refused_if : Bool → Result (Unit {0}) Refusal
refused_if true = Err Cell
refused_if false = Ok tt

-- Where a test says so, so many cells from the number `start` on are blank.
abbrev pub BlankIf : Bool → List ℕ → ℕ → ℕ → Type 0
BlankIf true T start count = (i : ℕ) → i < count → cell_at T (start + i) ≡ (0, 0)
BlankIf false T start count = Unit {0}

-- Where a test says so, so many cells at the end of a row of n + 1, which begins at the number `start`, are blank.
abbrev pub EndBlankIf : Bool → List ℕ → ℕ → ℕ → ℕ → Type 0
EndBlankIf true T start n count = (p : ℕ) → p ≤ n → n < p + count → cell_at T (start + p) ≡ (0, 0)
EndBlankIf false T start n count = Unit {0}

-- A cell that stays is out of range, among so many from the number `start` on.
abbrev pub row_out : ℕ → ℕ → List ℕ → ℕ → ℕ → Bool
row_out n limit T start count = some count (λ p. out_of_range n p (kept limit p (cell_at T (start + p))))

-- In a row that begins at the number `start` every cell before the position `first` holds what is retained.
abbrev pub Unchanged : ℕ → List ℕ → ℕ → ℕ → Type 0
Unchanged limit T start first = (p : ℕ) → p < first → kept limit p (cell_at T (start + p)) ≡ cell_at T (start + p)

-- What is found in so many cells of a row that begins at the number `start`: whether one that stays is out of range, and a position up to the limit before
-- which every one of them holds what is retained.
pub record Looked (n limit : ℕ) (T : List ℕ) (start count : ℕ) (out : Bool) (first : ℕ) : Type 0 where
  pub says : out ≡ row_out n limit T start count
  pub low : first ≤ limit
  pub unchanged : (p : ℕ) → p < count → p < first → kept limit p (cell_at T (start + p)) ≡ cell_at T (start + p)

-- Such a position, where no cell that stays is out of range; or refusal 19.
abbrev pub Found : ℕ → ℕ → List ℕ → ℕ → ℕ → Result ℕ Refusal → Type 0
Found n limit T start count (Ok first) = Looked n limit T start count false first
Found n limit T start count (Err e) = (e ≡ Cell) × (row_out n limit T start count ≡ true)

-- Such a position for each of v rows.
pub record Firsts (v n limit : ℕ) (T firsts : List ℕ) : Type 0 where
  pub low : (i : ℕ) → i < v → get_or firsts i 0 ≤ limit
  pub unchanged : (i : ℕ) → i < v → Unchanged limit T (cells i n) (get_or firsts i 0)

-- They are noted where no cell that stays is out of range.
abbrev pub FirstsUnless : Bool → ℕ → ℕ → ℕ → List ℕ → List ℕ → Type 0
FirstsUnless true v n limit T firsts = Unit {0}
FirstsUnless false v n limit T firsts = Firsts v n limit T firsts

-- So many cells of a row that begins at the number `start` hold what is retained, and no other cell is changed.
pub record Keeps (limit start count : ℕ) (T T' : List ℕ) : Type 0 where
  pub keeps : (p : ℕ) → p < count → cell_at T' (start + p) ≡ kept limit p (cell_at T (start + p))
  pub others : (i : ℕ) → (i < start) ⊎ (start + count ≤ i) → cell_at T' i ≡ cell_at T i
  pub later : (N : ℕ) → start + count ≤ N → drop (2 * N) T' ≡ drop (2 * N) T
  pub size : length T' ≡ length T

-- The cells of v variables on n bytes hold `start`, and no later cell is changed.
pub record Starts (v n : ℕ) (start : Pair → ℕ × ℕ) (T T' : List ℕ) : Type 0 where
  pub holds : (A p : ℕ) → Within v n A p → contents n T' (A at p) ≡ start (A at p)
  pub later : drop (2 * cells v n) T' ≡ drop (2 * cells v n) T
  pub size : length T' ≡ length T

-- A table with a cell out of range stays as it was.
abbrev pub StartsUnless : Bool → ℕ → ℕ → (Pair → ℕ × ℕ) → List ℕ → List ℕ → Type 0
StartsUnless true v n start T T' = T' ≡ T
StartsUnless false v n start T T' = Starts v n start T T'
