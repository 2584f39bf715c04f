-- Closing what a walk left open: what it asks, and what is then in the table. Assumes nothing.
use Rattle.std.specs.Prelude.{Bool, ◌≢◌, ◌≡◌, ℕ, suc, ◌*◌, ◌≤◌, ◌<◌, length, get_or, drop}
use mathlib.Core.List.{List, [], ◌∷◌, Memᴰ}
use Rattle.schema.specs.Cells.{held_at, reach_at}
use Rattle.schema.specs.Derivation.{Pair, ◌at◌, missing, Outcome, result, stopped, loop}
use Rattle.schema.specs.Table.{Within, cells, held}
use Rattle.cells.specs.Packed.{entry}
use Rattle.step.specs.Codes.{open_mark, result_of}
use Rattle.step.specs.declared.Walk.{Walk}
use Rattle.step.specs.declared.Walk.TheVariants as walk

-- What each case of the walk's answer says: the outcome.
abbrev pub outcome_of : Walk → Outcome
outcome_of (walk.Settled c) = result (result_of c)
outcome_of (walk.Loop A p B q d) = loop
outcome_of (walk.Missing A p d) = stopped missing

-- The named pair.
abbrev pub named_of : Walk → Pair
named_of (walk.Settled c) = 0 at 0
named_of (walk.Loop A p B q d) = A at p
named_of (walk.Missing A p d) = A at p

-- The open pairs from the latest to the asked one, root: each was called by the next, which the work slice holds, d of them in all, the latest last.
pub data Trail (W : List ℕ) (root : Pair) : ℕ → List Pair → Type 0 where
  nothing_open : Trail W root 0 []
  only_asked : Trail W root 0 (root ∷ [])
  called_by : {d : ℕ} {x y : Pair} {ps : List Pair} (k : Bool) → ¬ Memᴰ y (x ∷ ps) → get_or W d 0 ≡ entry k x → Trail W root d (x ∷ ps)
      → Trail W root (suc d) (y ∷ x ∷ ps)

-- c is stored in the open cells, with the reach m, which is 0, from that of B at q to that of the asked pair, root, by the d callers in the work slice.
pub record CloseReady (n v B q d c m : ℕ) (T W : List ℕ) : Type 0 where
  pub few : v ≤ 256
  pub short : n ≤ 4096
  pub not_open : c ≢ open_mark
  pub no_reach : m ≡ 0
  pub room : 2 * cells v n ≤ length T
  pub work_room : cells v n ≤ length W
  pub deep : d ≤ cells v n
  pub root : Pair
  pub rest : List Pair
  pub trail : Trail W root d ((B at q) ∷ rest)
  pub within_all : (C e : ℕ) → Memᴰ (C at e) ((B at q) ∷ rest) → Within v n C e
  pub open_all : (C e : ℕ) → Memᴰ (C at e) ((B at q) ∷ rest) → held n T (C at e) ≡ open_mark
  pub on_trail : (C e : ℕ) → Within v n C e → held n T (C at e) ≡ open_mark → Memᴰ (C at e) ((B at q) ∷ rest)

-- Every open cell of the first N holds c, with the reach 0, and no other cell changes.
pub record Closes (N c : ℕ) (T T' : List ℕ) : Type 0 where
  pub opened : (i : ℕ) → i < N → held_at T i ≡ open_mark → (held_at T' i ≡ c) × (reach_at T' i ≡ 0)
  pub others : (i : ℕ) → held_at T i ≢ open_mark → (held_at T' i ≡ held_at T i) × (reach_at T' i ≡ reach_at T i)
  pub later : drop (2 * N) T' ≡ drop (2 * N) T
  pub size : length T' ≡ length T
