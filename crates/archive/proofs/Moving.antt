-- The cells of a table moved from one layout to the other: rows turned into columns. Assumes nothing.
use mathlib.Core.List.{List}
use mathlib.Core.Path.{◌≡◌, sym, ap, ◌∙◌}
use Prim.Native.Nat.{ℕ, ◌+◌, ◌-◌, ◌*◌}
use native.Mathlib.Nat.{mul_comm}
use native.Mathlib.Omega.{arith}
use lib.ListN.{length, drop}
use Rattle.grammar.specs.Refusal.{Checked, refused, accepted}
use Rattle.archive.specs.Archive.{Stored, told, Moved, Unless, MovePromise}
use Rattle.archive.specs.Layout.{Layout, by_variable, by_position}
use Rattle.archive.specs.Refusals.{movable}
use Rattle.archive.specs.Turn.{TurnReady, Turned, Sides, TurnPromise}
use Rattle.archive.proofs.Refusing.{clear}

module _ (v n : ℕ) (S T : List ℕ) where
  -- Where nothing is refused, there is room for rows and columns.
  pub turn_ready : {rows columns : ℕ} → Sides v n rows columns → movable v n (length S) (length T) ≡ accepted tt → TurnReady rows columns S T
  turn_ready {rows} {columns} sides e =
      let c = clear v n (length S) (length T) e in
      let few = c.few in
      let short = c.short in
      let s = c.source_room in
      let t = c.target_room in
      let d = sides.due in
      let m = mul_comm columns rows in
      record {
        few_rows = let l = sides.rows_most in omega arith;
        few_columns = let l = sides.columns_most in omega arith;
        source_room = omega arith;
        target_room = omega arith;
      }

  -- The rows of the variables become columns,
  pub stores : {T' : List ℕ} → Turned v (n + 1) 0 (n + 1) S T T' → Moved by_variable by_position v n S T T'
  stores {T'} t =
      let m = mul_comm (n + 1) v in
      record {
        moves = λ A p w. t.turns (A - 1) p (omega (arith, w.variable.0, w.variable.1)) (omega arith) (omega (arith, w.position));
        later = ap (λ (k : ℕ). drop (2 * k) T') (sym m) ∙ t.later ∙ ap (λ (k : ℕ). drop (2 * k) T) m;
        size = t.size;
      }

  -- or the rows of the positions do.
  pub restores : {T' : List ℕ} → Turned (n + 1) v 0 v S T T' → Moved by_position by_variable v n S T T'
  restores t = record {
    moves = λ A p w. t.turns p (A - 1) (omega (arith, w.position)) (omega arith) (omega (arith, w.variable.0, w.variable.1));
    later = t.later;
    size = t.size;
  }

-- ---- From the promise of a turned table to that of moved cells.

pub moves_by : (from to : Layout) (v n rows columns : ℕ) (S T T' : List ℕ) (r : Stored) → (Turned rows columns 0 columns S T T' → Moved from to v n S T T')
    → TurnPromise v n rows columns S T T' r → MovePromise from to v n S T T' r
moves_by from to v n rows columns S T T' r moves = by_test (movable v n (length S) (length T))
  where
    by_test : (o : Checked (Unit {0})) → Unless o (Turned rows columns 0 columns S T T') T T' (told r) → Unless o (Moved from to v n S T T') T T' (told r)
    by_test (refused x l) p = p
    by_test (accepted u) p = (p.0, moves p.1)
