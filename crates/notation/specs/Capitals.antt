-- The letters of a text by its bytes alone, and their numbers. Assumes nothing.
use Rattle.std.specs.Prelude.{cond, List, [], ◌∷◌, ℕ, zero, suc, eqb}
use Rattle.notation.specs.Text.{among, rank, capital}

-- The capitals behind the next k bytes. At a quote, the quoted byte and the byte behind it are left out.
unfoldable pub capitals_after : ℕ → List ℕ → List ℕ
capitals_after k [] = []
capitals_after (suc k) (b ∷ s) = capitals_after k s
capitals_after zero (b ∷ s) = cond (eqb b 39) (capitals_after 2 s) (cond (capital b) (b ∷ capitals_after 0 s) (capitals_after 0 s))

-- The capitals outside quotes, in their order.
abbrev pub capitals : List ℕ → List ℕ
capitals s = capitals_after 0 s

-- The number of a letter among these; 0 where it is not there.
unfoldable pub number_in : List ℕ → ℕ → ℕ
number_in As A = cond (among A As) (rank As A) 0
