-- Lines by their number. Assumes nothing.
use mathlib.Core.List.{List, [], ◌∷◌, ◌++◌}
use mathlib.Core.Option.{none}
use mathlib.Core.Path.{◌≡◌, refl, sym, ◌∙◌, fun_ext}
use Prim.Native.Nat.{ℕ, zero, suc, ◌≤◌, ◌<◌}
use native.Mathlib.Decide.{dec_lt}
use native.Mathlib.Omega.{arith}
use lib.ListN.{length, get_elem?}
use Rattle.schema.specs.Line.{Line, numbered}
use Rattle.checker.specs.Checker.{line_at, earlier_line}
use Rattle.checker.proofs.LineForm.{no_line, not_earlier, is_earlier}

-- There is nothing past the end of a list; a list in front of another keeps its places.
pub past : {A : Type 0} (ls : List A) (i : ℕ) → length ls ≤ i → get_elem? ls i ≡ none
past [] i l = refl
past (a ∷ ls) zero l = absurd (omega arith)
past (a ∷ ls) (suc i) l = past ls i (omega arith)

pub in_front : {A : Type 0} (ls ms : List A) (i : ℕ) → i < length ls → get_elem? (ls ++ ms) i ≡ get_elem? ls i
in_front [] ms i l = absurd (omega arith)
in_front (a ∷ ls) ms zero l = refl
in_front (a ∷ ls) ms (suc i) l = in_front ls ms i (omega arith)

-- The certificate begins with these lines.
abbrev pub Begins : List ℕ → List Line → Type 0
Begins s ls = (i : ℕ) → i < length ls → line_at s (suc i) ≡ get_elem? ls i

-- Then they are the lines before the one that comes next.
pub earlier_lines : (s : List ℕ) (ls : List Line) → Begins s ls → earlier_line s (suc (length ls)) ≡ numbered ls
earlier_lines s ls h = fun_ext go
  where
    found : (m : ℕ) → Dec (m < length ls) → earlier_line s (suc (length ls)) (suc m) ≡ get_elem? ls m
    found m (yes l) = is_earlier s (suc (length ls)) (suc m) (omega arith) ∙ h m l
    found m (no n) =
        let l : length ls ≤ m = omega arith in
        not_earlier s (suc (length ls)) (suc m) (omega arith) ∙ sym (past ls m l)

    go : (i : ℕ) → earlier_line s (suc (length ls)) i ≡ numbered ls i
    go zero = no_line s (suc (length ls))
    go (suc m) = found m (dec_lt m (length ls))
