-- The walk as a function: depth first over a table of marks, the open pairs on a trail. Assumes nothing.
use mathlib.Core.List.{List, [], ◌∷◌}
use Prim.Native.Nat.{ℕ, zero, suc, ◌*◌}
use Rattle.calls.proofs.System.{System, Kind, gives, stuck, calls, Answer, value, halts, loops}
use Rattle.calls.proofs.Table.{Mark, blank, opened, settled, put}

-- What one step does: it ends with an answer that names a pair, or goes on with a table and a trail.
pub data Next (A E : Type 0) : Type 0 where
  ended : Answer A E → ℕ → Next A E
  moved : (ℕ → Mark A) → List ℕ → Next A E

-- What a question gives: the table, the answer, and the pair that it names.
pub record Walked (A E : Type 0) : Type 0 where
  pub table : ℕ → Mark A
  pub answer : Answer A E
  pub name : ℕ

-- What the mark of the asked pair says at the end.
abbrev pub answer_of : {A E : Type 0} → Mark A → Answer A E
answer_of blank = loops
answer_of opened = loops
answer_of (settled a) = value a

module _ {A E : Type 0} (σ : System ℕ A E) where
  open σ use {kind, first, second, join}

  -- One step from the top x of the trail, by the mark of its second pair, of its first pair, and by its kind.
  module _ (T : ℕ → Mark A) (x : ℕ) (s : List ℕ) where
    -- The first pair has the value a.
    abbrev pub at_second : A → Mark A → Next A E
    at_second a blank = moved (put T (second x a) opened) (second x a ∷ x ∷ s)
    at_second a opened = ended loops (second x a)
    at_second a (settled c) = moved (put T x (settled (join x a c))) s

    -- The pair calls.
    abbrev pub at_first : Mark A → Next A E
    at_first blank = moved (put T (first x) opened) (first x ∷ x ∷ s)
    at_first opened = ended loops (first x)
    at_first (settled a) = at_second a (T (second x a))

    -- A step.
    abbrev pub at_kind : Kind A E → Next A E
    at_kind (gives a) = moved (put T x (settled a)) s
    at_kind (stuck e) = ended (halts e) x
    at_kind calls = at_first (T (first x))

  -- Whatever comes after a step.
  abbrev pub resume : ((ℕ → Mark A) → List ℕ → Walked A E) → (ℕ → Mark A) → Next A E → Walked A E
  resume f T (ended o z) = record { table = T; answer = o; name = z }
  resume f T (moved U r) = f U r

  -- At most this many steps, from a table and a trail.
  unfoldable pub walk : ℕ → ℕ → (ℕ → Mark A) → List ℕ → Walked A E
  walk zero root T s = record { table = T; answer = answer_of (T root); name = root }
  walk (suc n) root T [] = record { table = T; answer = answer_of (T root); name = root }
  walk (suc n) root T (x ∷ s) = resume (λ U r. walk n root U r) T (at_kind T x s (kind x))

  -- A question about root over the table T of N cells: twice as many steps as cells.
  abbrev pub ask_by : ℕ → (ℕ → Mark A) → ℕ → Mark A → Walked A E
  ask_by N T root blank = walk (N * 2) root (put T root opened) (root ∷ [])
  ask_by N T root opened = record { table = T; answer = loops; name = root }
  ask_by N T root (settled a) = record { table = T; answer = value a; name = root }

  -- By the mark of the asked pair.
  unfoldable pub ask : ℕ → (ℕ → Mark A) → ℕ → Walked A E
  ask N T root = ask_by N T root (T root)
