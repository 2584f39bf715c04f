-- Document 02, orders 4 and 10: an entry and the same with one byte corrected. Assumes nothing.
use Rattle.std.specs.Prelude.{Bool, not, ◌&&◌, ◌||◌, List, ◌≢◌, ◌≡◌, ℕ, eqb, length, get_or}
use Rattle.kept.specs.Some.{some}

-- "the corrected entry of equal length"; "an entry that differs at c at most"
pub record DiffersAt (c : ℕ) (s s' : List ℕ) : Type 0 where
  pub size : length s' ≡ length s
  pub same : (p : ℕ) → p ≢ c → get_or s' p 0 ≡ get_or s p 0

-- Two inputs have different bytes at a position.
abbrev pub bytes_differ : List ℕ → List ℕ → ℕ → Bool
bytes_differ s s' p = not (eqb (get_or s p 0) (get_or s' p 0))

-- They have, and it is not c.
abbrev pub other_bytes_differ : ℕ → List ℕ → List ℕ → ℕ → Bool
other_bytes_differ c s s' p = not (eqb p c) && bytes_differ s s' p

-- Order 10: "21 the old and new entries differ in length or at a place other than c". It is false exactly where `DiffersAt` (`differs_exactly`).
unfoldable pub differs_elsewhere : ℕ → List ℕ → List ℕ → Bool
differs_elsewhere c s s' = not (eqb (length s) (length s')) || some (length s') (other_bytes_differ c s s')
