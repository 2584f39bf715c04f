-- Document 02, orders 4, 6 and 8: what a call retains of a table before it asks, and the tables from which an answer is promised. Assumes nothing.
use Rattle.std.specs.Prelude.{Bool, cond, not, ◌&&◌, ◌||◌, List, ◌≡◌, ℕ, ◌+◌, ◌<◌, eqb, ltb, length}
use Rattle.grammar.specs.Rule.{Rule}
use Rattle.schema.specs.Derivation.{Pair, ◌at◌}
use Rattle.schema.specs.Table.{Within, contents, blanked, Table}
use Rattle.kept.specs.Differs.{DiffersAt}

-- ---- What is retained where cells at positions below a limit are blanked: for a correction the limit is c + 1, for a further question, which "blanks
-- nothing", it is 0.

-- "success and failure cells (1, and 5 or more)": by the outcome's number.
abbrev pub is_result : ℕ → Bool
is_result o = eqb o 1 || not (ltb o 5)

-- Such a cell whose reach is below the limit. For a correction: what it holds was found by looking at bytes before c only.
abbrev pub looks_below : ℕ → ℕ × ℕ → Bool
looks_below limit k = is_result k.0 && ltb k.1 limit

-- Order 4: "It blanks cells at places up to c, retains the others". Order 6: "success and failure cells (1, and 5 or more) with reach at most c stay
-- also". So a cell at the position p that holds k stays:
abbrev pub stays : ℕ → ℕ → ℕ × ℕ → Bool
stays limit p k = not (ltb p limit) || looks_below limit k

-- what it then holds,
abbrev pub kept : ℕ → ℕ → ℕ × ℕ → ℕ × ℕ
kept limit p k = cond (stays limit p k) k (0, 0)

-- and what the cell of a pair then holds, on n bytes.
abbrev pub retained : ℕ → ℕ → List ℕ → Pair → ℕ × ℕ
retained limit n T (A at p) = kept limit p (contents n T (A at p))

-- ---- Kept tables.

-- A table of v variables on n bytes is blank: both numbers of each cell are 0.
abbrev pub Blank : ℕ → ℕ → List ℕ → Type 0
Blank v n T = (A p : ℕ) → Within v n A p → contents n T (A at p) ≡ (0, 0)

-- Order 8: "A kept table is, for one sheet and entry, a blank one, one left by a question, or one left by a further question or a correction from a kept
-- table (for a correction, of an entry that differs at c at most)." KeptTable rule v s T: a table T of the input s. It speaks of what a call leaves of a
-- table, and of no call's contract. That the calls leave kept tables is a law of each: `question_kept` and `kept_again` of correction, and `verdict_kept`,
-- `writer_kept` and `opening_kept` of demands for those that ask a question too.
pub data KeptTable (rule : ℕ → Rule) (v : ℕ) : List ℕ → List ℕ → Type 0 where
  -- "a blank one,"
  blank : {s T : List ℕ} → Blank v (length s) T → KeptTable rule v s T
  -- "one left by a question,"
  asked : {s O T : List ℕ} {A p : ℕ} → Within v (length s) A p → Table rule s v (A at p) blanked O T → KeptTable rule v s T
  -- "or one left by a further question .. from a kept table": "A further question blanks nothing."
  further : {s O T : List ℕ} {A p : ℕ} → Within v (length s) A p → KeptTable rule v s O → Table rule s v (A at p) (contents (length s) O) O T
      → KeptTable rule v s T
  -- "or a correction from a kept table (for a correction, of an entry that differs at c at most)": c is the position of a byte.
  corrected : {s s' O T : List ℕ} {A p c : ℕ} → Within v (length s') A p → c < length s' → KeptTable rule v s O → DiffersAt c s s'
      → Table rule s' v (A at p) (retained (c + 1) (length s') O) O T → KeptTable rule v s' T
