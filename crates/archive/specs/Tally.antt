-- Document 02, order 9: counts of cells by their outcome. Assumes nothing.
use Rattle.std.specs.Prelude.{Bool, cond, List, [], ◌∷◌, map, ℕ, zero, suc, ◌+◌, eqb, leb}
use Rattle.schema.specs.Cells.{held_at}

-- How many of the first N cells of a table, as they stand there, have an outcome of a kind.
unfoldable pub outcomes : (ℕ → Bool) → ℕ → List ℕ → ℕ
outcomes kind zero T = 0
outcomes kind (suc N) T = cond (kind (held_at T N)) (suc (outcomes kind N T)) (outcomes kind N T)

-- "outcome 0, 1, 2, 3, 4, and 5 or more": since order 11 no call stores 4, but a lent table may hold it.
abbrev pub kinds : List (ℕ → Bool)
kinds = (λ o. eqb o 0) ∷ (λ o. eqb o 1) ∷ (λ o. eqb o 2) ∷ (λ o. eqb o 3) ∷ (λ o. eqb o 4) ∷ (λ o. leb 5 o) ∷ []

-- "The counts of cells" of these kinds.
abbrev pub tally : ℕ → List ℕ → List ℕ
tally N T = map (λ kind. outcomes kind N T) kinds

-- The sum of counts.
abbrev pub total : List ℕ → ℕ
total [] = 0
total (k ∷ ks) = k + total ks
