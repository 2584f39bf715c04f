-- Document 02, orders 4, 6, 8 and 10: the refusals of a correction and of a further question, a question's and then their own. Assumes nothing.
use Rattle.std.specs.Prelude.{Bool, false, cond, not, List, [], ◌∷◌, ◌++◌, ℕ, ◌+◌, ltb, eqb, length}
use Rattle.grammar.specs.Order.{FirstHolds}
use Rattle.grammar.specs.Refusal.{Checked, checked, from}
use Rattle.grammar.specs.Sheet.{Grammar, grammar_of}
use Rattle.schema.specs.Derivation.{Pair}
use Rattle.schema.specs.Handed.{handed_condition, handed_order, question_of}
use Rattle.schema.specs.Table.{contents}
use Rattle.kept.specs.Differs.{differs_elsewhere}
use Rattle.kept.specs.Kept.{retained}
use Rattle.kept.specs.Range.{cells_out}

-- ---- A call over a table that may hold anything.

-- It is handed what a question is, with a table and a work slice of so many numbers, and tests more: `own` is the condition of its numbers from 18 on,
-- and `order` is the order of these.
module _ (sheet input : List ℕ) (x : Pair) (table work : ℕ) (own : Grammar → ℕ → ℕ → Bool) (order : List (ℕ × ℕ)) where
  -- The condition of a refusal by its number, at a line: those below 18 are the question's.
  unfoldable pub condition_of : ℕ → ℕ → Bool
  condition_of = from 18 (own (grammar_of sheet)) (handed_condition sheet (question_of input x table work))

  -- The question's order, "after 10" its own.
  unfoldable pub order_of : List (ℕ × ℕ)
  order_of = handed_order sheet ++ order

  -- The first condition that holds is that of the number at the line.
  abbrev pub Refuses : ℕ → ℕ → Type 0
  Refuses number line = FirstHolds condition_of order_of number line

  -- The grammar of the sheet that the call is handed, or its first refusal.
  unfoldable pub callable : Checked Grammar
  callable = checked condition_of order_of (grammar_of sheet)

-- ---- The correction.

-- "18 c not below n"
abbrev pub corrected_out : ℕ → ℕ → Bool
corrected_out n c = not (ltb c n)

-- The condition of 18, of 21 and of 19, of the old input, the corrected one and the table before the call; none has a line. Order 10: "6 tests only the
-- new one": the question's conditions are of the corrected input, and an old one over 4,096 bytes differs from it in length.
unfoldable pub correction_condition : List ℕ → List ℕ → ℕ → List ℕ → Grammar → ℕ → ℕ → Bool
correction_condition old input c table g number line =
    cond (eqb number 18) (corrected_out (length input) c)
    (cond (eqb number 21) (differs_elsewhere c old input)
    (cond (eqb number 19) (cells_out g.variables (length input) (retained (c + 1) (length input) table))
    false))

-- Order 4: "in that order after 10". Order 10: "21 .., after 18", between 18 and 19.
abbrev pub correction_order : List (ℕ × ℕ)
correction_order = (18, 0) ∷ (21, 0) ∷ (19, 0) ∷ []

-- ---- The further question.

-- The condition of 19, "over its first V times (n + 1) cells"; it has no line.
unfoldable pub further_condition : List ℕ → List ℕ → Grammar → ℕ → ℕ → Bool
further_condition input table g number line = cond (eqb number 19) (cells_out g.variables (length input) (contents (length input) table)) false

abbrev pub further_order : List (ℕ × ℕ)
further_order = (19, 0) ∷ []

-- ---- What each call is handed; `work` is the length of the work slice.

abbrev pub correctable : List ℕ → List ℕ → List ℕ → Pair → ℕ → List ℕ → ℕ → Checked Grammar
correctable sheet old input x c table work = callable sheet input x (length table) work (correction_condition old input c table) correction_order

abbrev pub CorrectionRefuses : List ℕ → List ℕ → List ℕ → Pair → ℕ → List ℕ → ℕ → ℕ → ℕ → Type 0
CorrectionRefuses sheet old input x c table work = Refuses sheet input x (length table) work (correction_condition old input c table) correction_order

abbrev pub askable : List ℕ → List ℕ → Pair → List ℕ → ℕ → Checked Grammar
askable sheet input x table work = callable sheet input x (length table) work (further_condition input table) further_order

abbrev pub FurtherRefuses : List ℕ → List ℕ → Pair → List ℕ → ℕ → ℕ → ℕ → Type 0
FurtherRefuses sheet input x table work = Refuses sheet input x (length table) work (further_condition input table) further_order
