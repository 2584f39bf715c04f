-- What is next at a pair, by the numbers that the work slice holds for the pairs that it calls. Assumes nothing.
use mathlib.Core.Bool.{true≢false}
use mathlib.Core.Path.{◌≡◌, refl, subst}
use mathlib.Core.List.{List}
use mathlib.Core.Logic.{inl, inr, ◌≢◌}
use Prim.Native.Nat.{ℕ, ◌≤◌, ◌<◌}
use native.Mathlib.Omega.{arith}
use lib.ListN.{length}
use Rattle.grammar.specs.Rule.{Rule}
use Rattle.rules.specs.Act.{told}
use Rattle.rules.specs.declared.Act.{Act}
use Rattle.rules.specs.declared.Act.TheVariants as code
use Rattle.schema.specs.Closed.{Variable}
use Rattle.schema.specs.Derivation.{◌at◌, Result, calls, act, second}
use Rattle.schema.specs.Table.{cell, cells, held}
use Rattle.schema.proofs.Cell.{cell_below}
use Rattle.schema.proofs.Closed.{calls_call}
use Rattle.step.specs.Codes.{Settled}
use Rattle.lines.specs.Turning.{CallsReady, TurnsCalls, Lower, to_first, to_second, of_calls, Turns, TurnReady}
use Rattle.lines.specs.declared.Turn.{Turn}
use Rattle.lines.specs.declared.Turn.TheVariants as turn

-- An act that is no call is told of none.
pub not_calls : (a : Act) → ((b c d : ℕ) → a ≢ code.Calls b c d) → (B C D : ℕ) → told a ≢ calls B C D
not_calls (code.Success q) k B C D e = true≢false (cc)
not_calls code.Failure k B C D e = true≢false (cc)
not_calls code.Missing k B C D e = true≢false (cc)
not_calls (code.Calls b c d) k B C D e = k b c d refl

-- What a number of the work slice asks.
pub cell_in : (v n : ℕ) (L : List ℕ) (X q : ℕ) → v ≤ 256 → n ≤ 4096 → cells v n ≤ length L → Variable v X → q ≤ n
    → (1 ≤ X) × (X ≤ 256) × (n ≤ 4096) × (q ≤ n) × (cell n (X at q) < length L)
cell_in v n L X q few short room i l =
    let below = cell_below v n (X at q) (record { variable = i; position = l }) in
    let h = i.1 in
    (i.0, omega arith, short, l, omega arith)

module _ {rule : ℕ → Rule} {s : List ℕ} {v A p : ℕ} {T W : List ℕ} (q : TurnReady rule s v A p T W) where
  module _ {B C D : ℕ} (e : act rule s (A at p) ≡ calls B C D) where
    -- What is asked where a rule calls.
    pub calls_ready : CallsReady (length s) p B C D T W
    calls_ready =
        let k = q.closed A B C D (calls_call (rule A) s p B C D e) in
        let f = q.first B C D e in
        record {
          variables = v;
          few = q.few;
          short = q.short;
          room = q.room;
          work_room = q.work_room;
          position_in = q.within.position;
          b_in = k.0;
          c_in = k.1;
          d_in = k.2;
          found = f.0;
          first = f.1;
        }

    -- What is next then.
    pub turns_calls : (r : Turn) → ((t : Result) → Settled (length s) (held (length s) T (B at p)) t → TurnsCalls (length s) W (B at p) (second C D p t) r)
        → Turns rule s T W (A at p) r
    turns_calls (turn.Down E u) h =
        let f = q.first B C D e in
        elim (h f.0 f.1) [
          | inl k ↦ subst (Lower rule s T W (A at p)) k.0 (to_first e k.1)
          | inr k ↦ subst (Lower rule s T W (A at p)) k.1 (to_second e f.1 k.0 k.2)
        ]
    turns_calls (turn.Line i j) h =
        let f = q.first B C D e in
        let k = h f.0 f.1 in
        rw (k.2, k.3) (of_calls e f.1 k.0 k.1)
