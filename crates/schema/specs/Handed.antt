-- Document 01, "Who can bring on which number": what a call is handed, and its refusals 6 to 11. Assumes nothing.
use Rattle.std.specs.Prelude.{Bool, false, cond, not, ◌||◌, List, [], ◌∷◌, ◌++◌, ℕ, ◌*◌, ltb, eqb, length}
use Rattle.std.proofs.Math.Option.{Option, none, some}
use Rattle.grammar.specs.Order.{FirstHolds}
use Rattle.grammar.specs.Refusal.{Checked, checked, from}
use Rattle.grammar.specs.Rule.{within}
use Rattle.grammar.specs.Sheet.{Grammar, grammar_of, condition, sheet_order}
use Rattle.schema.specs.Derivation.{Pair, ◌at◌}
use Rattle.schema.specs.Table.{cells}

-- What a call is handed beside the sheet: the input (document 01: the entry), and where it is handed them, the pair in question,
-- the lengths of the table and of the work slice, and the length of the output.
pub record Handed : Type 0 where
  pub input : List ℕ
  pub pair : Option Pair
  pub slices : Option (ℕ × ℕ)
  pub output : Option ℕ

-- "A call tests only what it is handed."
abbrev pub tested : {A : Type 0} → Option A → (A → Bool) → Bool
tested none out = false
tested (some a) out = out a

-- "6, entry over 4,096."
abbrev pub input_long : Handed → Bool
input_long h = ltb 4096 (length h.input)

-- "8, variable not in 1 to V."
abbrev pub pair_variable_out : ℕ → Pair → Bool
pair_variable_out v (A at p) = not (within 1 v A)

-- "9, place above n."
abbrev pub pair_position_out : ℕ → Pair → Bool
pair_position_out n (A at p) = ltb n p

-- "10, table or work slice under V times (n + 1).", order 6: "The table then needs twice the numbers under 10."
abbrev pub slices_short : ℕ → ℕ × ℕ → Bool
slices_short count l = ltb l.0 (2 * count) || ltb l.1 count

-- "11, output under 49 times V times (n + 1)."
abbrev pub output_short : ℕ → ℕ → Bool
output_short count l = ltb l (49 * count)

-- The condition of a refusal by its number; none of these has a line.
unfoldable pub call_condition : Grammar → Handed → ℕ → ℕ → Bool
call_condition g h number line =
    let n = length h.input in
    let count = cells g.variables n in
    cond (eqb number 6) (input_long h)
    (cond (eqb number 8) (tested h.pair (pair_variable_out g.variables))
    (cond (eqb number 9) (tested h.pair (pair_position_out n))
    (cond (eqb number 10) (tested h.slices (slices_short count))
    (cond (eqb number 11) (tested h.output (output_short count))
    false))))

-- The condition of a refusal by its number, at a line: 1 to 5 are the sheet's, 6 to 11 the call's.
unfoldable pub handed_condition : List ℕ → Handed → ℕ → ℕ → Bool
handed_condition s h = from 6 (call_condition (grammar_of s) h) (condition s)

-- "then 6, 7, 8, 9, 10, 11", order 11: "Refusal 7 no longer occurs".
abbrev pub call_order : List (ℕ × ℕ)
call_order = (6, 0) ∷ (8, 0) ∷ (9, 0) ∷ (10, 0) ∷ (11, 0) ∷ []

-- "Order: 1 over the sheet; line 1 for 2, 3; each next line for 2, 4, 5; then 6, 7, 8, 9, 10, 11."
unfoldable pub handed_order : List ℕ → List (ℕ × ℕ)
handed_order s = sheet_order s ++ call_order

-- The first condition that holds, of a call that is handed h, is that of the number x at the line l.
abbrev pub Refuses : List ℕ → Handed → ℕ → ℕ → Type 0
Refuses s h x l = FirstHolds (handed_condition s h) (handed_order s) x l

-- The grammar of the sheet that a call is handed, or the call's first refusal.
unfoldable pub handed : List ℕ → Handed → Checked Grammar
handed s h = checked (handed_condition s h) (handed_order s) (grammar_of s)

-- ---- What each call is handed; lengths of the slices.

-- The input and the pair, as every question about a pair.
abbrev pub asked : List ℕ → Pair → Handed
asked input x = record { input = input; pair = some x; slices = none; output = none }

-- "A question is sheet bytes, entry, variable and place, with a lent table and a lent work slice".
abbrev pub question_of : List ℕ → Pair → ℕ → ℕ → Handed
question_of input x table work = record { input = input; pair = some x; slices = some (table, work); output = none }

-- The verdict: no pair.
abbrev pub verdict_of : List ℕ → ℕ → ℕ → Handed
verdict_of input table work = record { input = input; pair = none; slices = some (table, work); output = none }

-- What the writer is handed: what a question is, and the output.
abbrev pub writer_of : List ℕ → Pair → ℕ → ℕ → ℕ → Handed
writer_of input x table work out = record { input = input; pair = some x; slices = some (table, work); output = some out }
