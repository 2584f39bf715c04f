-- Asking over the blanked table. Assumes nothing.
use mathlib.Core.Path.{◌≡◌, ap, ◌∙◌}
use mathlib.Core.List.{List}
use Prim.Native.Nat.{ℕ, ◌-◌, ◌*◌, ◌≤◌, ◌<◌}
use native.Mathlib.Omega.{arith}
use lib.ListN.{length, drop}
use Rattle.grammar.specs.Rule.{Rule}
use Rattle.schema.specs.Cells.{held_at, reach_at}
use Rattle.schema.specs.Derivation.{◌at◌}
use Rattle.schema.specs.Table.{cell, cells, decided}
use Rattle.schema.proofs.Cell.{cell_below}
use Rattle.finish.specs.Reply.{Reply, reply}
use Rattle.memo.specs.Answer.{Answers}
use Rattle.memo.specs.Ask.{AskReady}
use Rattle.walk.specs.Over.{OverReady, Over}
use Rattle.walk.proofs.Cleared.{cleared, cleared_length, cleared_held, cleared_reach, cleared_later, blank_right}
use Rattle.walk.proofs.Decided.{decided_zero}

module _ {rule : ℕ → Rule} {s : List ℕ} {v A p : ℕ} {T W : List ℕ} (r : AskReady rule s v A p T W) {T₁ : List ℕ} (e : T₁ ≡ cleared (2 * cells v (length s)) T) where
  abbrev N : ℕ
  N = cells v (length s)

  blank_at : (i : ℕ) → i < N → held_at T₁ i ≡ 0
  blank_at i l = ap (λ (C : List ℕ). held_at C i) e ∙ cleared_held N T i l

  blank_reach : (i : ℕ) → i < N → reach_at T₁ i ≡ 0
  blank_reach i l = ap (λ (C : List ℕ). reach_at C i) e ∙ cleared_reach N T i l

  blank_length : length T₁ ≡ length T
  blank_length = ap length e ∙ cleared_length (2 * N) T r.room

  blank_room : 2 * N ≤ length T₁
  blank_room = let l = blank_length in let m = r.room in omega arith

  -- The blanked table may be asked over.
  pub may_ask : OverReady rule s v A p T₁ W
  may_ask = record {
    few = r.few;
    short = r.short;
    closed = r.closed;
    within = r.within;
    room = blank_room;
    work_room = r.work_room;
    in_range = λ i l. let z = blank_at i l in omega arith;
  }

  -- What is answered over it: every decided cell is new.
  pub asked : {T₂ W₁ : List ℕ} {a : Reply} → Over rule v s (A at p) T₁ T₂ W W₁ a → Answers rule v s (A at p) T T₂ W W₁ a
  asked {T₂} {W₁} o =
      let k = o.from_right (blank_right rule s v T₁ blank_at) in
      let z = decided_zero T₁ N blank_at in
      let all : decided N T₂ - decided N T₁ ≡ decided N T₂ = omega arith in
      record {
        outcome = k.outcome;
        named = k.named;
        has = k.has;
        names = k.names;
        says = k.says ∙ ap (reply k.outcome k.named) all;
        leaves = record {
          holds = k.leaves.holds;
          others = λ B q w d. k.leaves.others B q w (λ h. d (h ∙ blank_at (cell (length s) (B at q)) (cell_below v (length s) (B at q) w)));
          others_reach = λ B q w d. k.leaves.others_reach B q w (λ h. d (h ∙ blank_reach (cell (length s) (B at q)) (cell_below v (length s) (B at q) w)));
          later = o.later ∙ ap (drop (2 * N)) e ∙ cleared_later (2 * N) T;
          size = o.size ∙ blank_length;
        };
        beyond = o.beyond;
        size = o.work_size;
      }
