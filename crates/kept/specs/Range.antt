-- Document 02, orders 4, 6, 8 and 11: the condition of refusal 19. Assumes nothing.
use Rattle.std.specs.Prelude.{Bool, not, ◌&&◌, ◌||◌, ℕ, suc, ◌+◌, eqb, ltb}
use Rattle.schema.specs.Derivation.{Pair, ◌at◌}
use Rattle.kept.specs.Kept.{is_result}
use Rattle.kept.specs.Some.{some}

-- "over 5 + n or a success ending left of its place"; order 6: "19 also covers a success or failure whose reach is below its place"; order 11: "a
-- retained 4 comes under 19": what a cell at the position p holds, on n bytes.
abbrev pub out_of_range : ℕ → ℕ → ℕ × ℕ → Bool
out_of_range n p k =
    ((ltb (5 + n) k.0 || (not (ltb k.0 5) && ltb k.0 (5 + p))) || eqb k.0 4) || (is_result k.0 && ltb k.1 p)

-- Some cell is out of range, of v variables, at some position from 0 to n. For a correction, "19 a retained cell ..", by what is retained; for a further
-- question, "19, over its first V times (n + 1) cells", by what the table holds.
unfoldable pub cells_out : ℕ → ℕ → (Pair → ℕ × ℕ) → Bool
cells_out v n start = some v (λ i. some (n + 1) (λ p. out_of_range n p (start (suc i at p))))
