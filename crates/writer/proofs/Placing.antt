-- What a step of the writer asks where it goes down. Assumes nothing.
use mathlib.Core.List.{List}
use Prim.Native.Nat.{ℕ, ◌≤◌, ◌<◌}
use native.Mathlib.Omega.{arith}
use lib.ListN.{length}
use Rattle.grammar.specs.Rule.{Rule}
use Rattle.schema.specs.Closed.{Closed}
use Rattle.schema.specs.Derivation.{Pair, ◌at◌}
use Rattle.schema.specs.Table.{cell}
use Rattle.schema.proofs.Cell.{PairWithin}
use Rattle.step.specs.Codes.{first_called, second_called}
use Rattle.step.proofs.Within.{called_within}
use Rattle.lines.specs.Turning.{Lower, to_first, to_second}
use Rattle.writer.specs.Writing.{StepReady, pair_at}
use Rattle.lines.specs.declared.Stand.{Stand}
use Rattle.lines.proofs.Turning.{cell_in}

-- A pair to go down to is within.
pub lower_in : {rule : ℕ → Rule} {s : List ℕ} {v : ℕ} {T W : List ℕ} {y z : Pair} → Closed v rule → PairWithin v (length s) y → Lower rule s T W y z
    → PairWithin v (length s) z
lower_in {rule} {s} {v} {T} closed w (to_first e b) = called_within rule s v closed {T = T} w (first_called e)
lower_in {rule} {s} {v} {T} closed w (to_second e m b c) = called_within rule s v closed {T = T} w (second_called e m)

module _ {rule : ℕ → Rule} {s : List ℕ} {v : ℕ} {T W out : List ℕ} {x : Stand} (q : StepReady rule s v T W out x) where
  -- What linking it asks.
  pub link_ready : {b u : ℕ} → Lower rule s T W (pair_at x) (b at u)
      → (1 ≤ b) × (b ≤ 256) × (length s ≤ 4096) × (u ≤ length s) × (cell (length s) (b at u) < length W) × (x.variable ≤ 256) × (x.position ≤ 4096)
  link_ready {b} {u} l =
      let t = q.turns in
      let i = lower_in t.closed t.within l in
      let k = cell_in v (length s) W b u t.few t.short t.work_room i.variable i.position in
      let h = t.within.variable.1 in
      let p = t.within.position in
      let f = t.few in
      let g = t.short in
      (k.0, k.1, k.2, k.3, k.4, omega arith, omega arith)
