-- Which lines stand once one is appended. Assumes nothing.
use mathlib.Core.Bool.{true≢false}
use mathlib.Core.Path.{◌≡◌, refl, ap}
use mathlib.Core.List.{List, [], ◌∷◌, ◌++◌}
use mathlib.Core.Logic.{◌⊎◌, inl, inr}
use mathlib.Core.Option.{some}
use Prim.Native.Nat.{ℕ, zero, suc, ◌+◌}
use native.Mathlib.Omega.{arith}
use native.Mathlib.Numerals.{add-one}
use lib.ListN.{length, get_elem?}
use Rattle.schema.specs.Derivation.{Pair, ◌at◌, Result, success, failure}
use Rattle.schema.specs.Line.{Line, line_of, numbered, Stands}

element_before : (ls more : List Line) (i : ℕ) (l : Line) → get_elem? ls i ≡ some l → get_elem? (ls ++ more) i ≡ some l
element_before [] more i l e = absurd (true≢false (cc))
element_before (x ∷ ls) more zero l e = e
element_before (x ∷ ls) more (suc i) l e = element_before ls more i l e

-- What is put behind a list is at its length.
pub element_last : {A : Type 0} (ls : List A) (l : A) → get_elem? (ls ++ l ∷ []) (length ls) ≡ some l
element_last [] l = refl
element_last (x ∷ ls) l = element_last ls l

element_cases : (ls : List Line) (l m : Line) (i : ℕ) → get_elem? (ls ++ l ∷ []) i ≡ some m → (get_elem? ls i ≡ some m) ⊎ ((i ≡ length ls) × (l ≡ m))
element_cases [] l m zero e = inr (refl, cc)
element_cases [] l m (suc i) e = absurd (true≢false (cc))
element_cases (x ∷ ls) l m zero e = inl e
element_cases (x ∷ ls) l m (suc i) e = further (element_cases ls l m i e)
  where
    further : (get_elem? ls i ≡ some m) ⊎ ((i ≡ length ls) × (l ≡ m)) → (get_elem? ls i ≡ some m) ⊎ ((suc i ≡ suc (length ls)) × (l ≡ m))
    further (inl h) = inl h
    further (inr h) = inr (ap suc h.0, h.1)

-- A line is that of one pair and one result.
pub line_one_law : (x y : Pair) (r t : Result) (i j k m : ℕ) → line_of x r i j ≡ line_of y t k m → (x ≡ y) × (r ≡ t)
line_one_law (A at p) (B at q) (success a) (success b) i j k m e = (cc, cc)
line_one_law (A at p) (B at q) (success a) failure i j k m e = absurd (true≢false (cc))
line_one_law (A at p) (B at q) failure (success b) i j k m e = absurd (true≢false (cc))
line_one_law (A at p) (B at q) failure failure i j k m e = (cc, cc)

numbered_before : (ls more : List Line) (i : ℕ) (l : Line) → numbered ls i ≡ some l → numbered (ls ++ more) i ≡ some l
numbered_before ls more zero l e = absurd (true≢false (cc))
numbered_before ls more (suc i) l e = element_before ls more i l e

numbered_cases : (ls : List Line) (l m : Line) (i : ℕ) → numbered (ls ++ l ∷ []) i ≡ some m → (numbered ls i ≡ some m) ⊎ ((i ≡ length ls + 1) × (l ≡ m))
numbered_cases ls l m zero e = absurd (true≢false (cc))
numbered_cases ls l m (suc i) e = counted (element_cases ls l m i e)
  where
    counted : (get_elem? ls i ≡ some m) ⊎ ((i ≡ length ls) × (l ≡ m)) → (get_elem? ls i ≡ some m) ⊎ ((suc i ≡ length ls + 1) × (l ≡ m))
    counted (inl h) = inl h
    counted (inr h) = let q = h.0 in inr (omega arith, h.1)

-- Of no lines none stands.
pub stands_none : {i : ℕ} {x : Pair} {r : Result} → Stands [] i x r → ⊥
stands_none {i} {x} {r} h = go i h.line
  where
    go : (k : ℕ) → numbered [] k ≡ some (line_of x r h.first h.second) → ⊥
    go zero e = true≢false (cc)
    go (suc k) e = true≢false (cc)

-- A line still stands where others are appended.
pub stands_before : {ls : List Line} (more : List Line) {i : ℕ} {x : Pair} {r : Result} → Stands ls i x r → Stands (ls ++ more) i x r
stands_before {ls} more {i} {x} {r} h =
    record { first = h.first; second = h.second; line = numbered_before ls more i (line_of x r h.first h.second) h.line }

-- The appended line stands last.
pub stands_last : (ls : List Line) (x : Pair) (r : Result) (i j : ℕ) → Stands (ls ++ line_of x r i j ∷ []) (length ls + 1) x r
stands_last ls x r i j =
    record { first = i; second = j; line = rw (add-one (length ls)) (element_last ls (line_of x r i j)) }

-- A line that stands stood before, or is the appended one.
pub stands_either : (ls : List Line) (l : Line) {k : ℕ} {y : Pair} {t : Result} → Stands (ls ++ l ∷ []) k y t
    → Stands ls k y t ⊎ ((k ≡ length ls + 1) × (i : ℕ) × (j : ℕ) × (l ≡ line_of y t i j))
stands_either ls l {k} {y} {t} h = which (numbered_cases ls l (line_of y t h.first h.second) k h.line)
  where
    which : (numbered ls k ≡ some (line_of y t h.first h.second)) ⊎ ((k ≡ length ls + 1) × (l ≡ line_of y t h.first h.second))
        → Stands ls k y t ⊎ ((k ≡ length ls + 1) × (i : ℕ) × (j : ℕ) × (l ≡ line_of y t i j))
    which (inl e) = inl (record { first = h.first; second = h.second; line = e })
    which (inr e) = inr (e.0, h.first, h.second, e.1)

-- The same of the line of a pair with a result.
pub stands_cases : (ls : List Line) (x : Pair) (r : Result) (i j : ℕ) {k : ℕ} {y : Pair} {t : Result} → Stands (ls ++ line_of x r i j ∷ []) k y t
    → Stands ls k y t ⊎ ((k ≡ length ls + 1) × (x ≡ y) × (r ≡ t))
stands_cases ls x r i j {k} {y} {t} h = elim (stands_either ls (line_of x r i j) h) [
  | inl e ↦ inl e
  | inr e ↦ let q = line_one_law x y r t i j e.1 e.2 e.3 in inr (e.0, q.0, q.1)
]
