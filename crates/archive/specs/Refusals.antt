-- Document 02, order 9: the refusals of storing and restoring. Assumes nothing.
use Rattle.std.specs.Prelude.{Bool, false, cond, not, ◌||◌, List, [], ◌∷◌, ℕ, ◌*◌, ltb, eqb}
use Rattle.grammar.specs.Order.{FirstHolds}
use Rattle.grammar.specs.Refusal.{Checked, checked}
use Rattle.grammar.specs.Rule.{within}
use Rattle.schema.specs.Table.{cells}

-- "3 for V": it is not in document 01's "1 to 256".
abbrev pub variables_out : ℕ → Bool
variables_out v = not (within 1 256 v)

-- "6 for n above 4,096"
abbrev pub length_out : ℕ → Bool
length_out n = ltb 4096 n

-- "20 either table shorter than twice the cells due": by the lengths of the table that is read and of the one that is written.
abbrev pub tables_short : ℕ → ℕ → ℕ → ℕ → Bool
tables_short v n source target = ltb source (2 * cells v n) || ltb target (2 * cells v n)

-- The condition of a refusal by its number; none of these has a line.
unfoldable pub archive_condition : ℕ → ℕ → ℕ → ℕ → ℕ → ℕ → Bool
archive_condition v n source target number line =
    cond (eqb number 3) (variables_out v)
    (cond (eqb number 6) (length_out n)
    (cond (eqb number 20) (tables_short v n source target)
    false))

-- "20 .., after 3 for V and 6 for n"
abbrev pub archive_order : List (ℕ × ℕ)
archive_order = (3, 0) ∷ (6, 0) ∷ (20, 0) ∷ []

-- The first condition that holds is that of the number x at the line l.
abbrev pub ArchiveRefuses : ℕ → ℕ → ℕ → ℕ → ℕ → ℕ → Type 0
ArchiveRefuses v n source target x l = FirstHolds (archive_condition v n source target) archive_order x l

-- The first refusal, or none.
unfoldable pub movable : ℕ → ℕ → ℕ → ℕ → Checked (Unit {0})
movable v n source target = checked (archive_condition v n source target) archive_order tt
