-- Asking and writing, step by step: where the lines end, for the work slice as it was, and the table that the question leaves. Assumes nothing.
use mathlib.Core.Path.{◌≡◌, refl, sym, ap, ◌∙◌, subst}
use mathlib.Core.Bool.{true, false, true≢false}
use mathlib.Core.List.{List, []}
use Prim.Native.Nat.{ℕ, ◌<◌}
use native.Mathlib.Omega.{arith}
use lib.ListN.{length, set, drop, length-set}
use lib.Seq.{drop-set-lt}
use Rattle.grammar.specs.Rule.{Rule}
use Rattle.schema.specs.Derivation.{Pair, ◌at◌, Result, Outcome, result, stopped, loop, Has}
use Rattle.schema.specs.Line.{lines_bytes}
use Rattle.schema.specs.Table.{cell, cells, code, held, Holds}
use Rattle.schema.proofs.Answer.{reached_cell}
use Rattle.schema.proofs.Cell.{PairWithin, cell_below}
use Rattle.schema.proofs.Ends.{ends_in, derives_ends}
use Rattle.schema.proofs.Laws.{has_one}
use Rattle.finish.specs.Reply.{Reply, reply, outcome_of}
use Rattle.memo.specs.Answer.{Answers}
use Rattle.step.specs.Codes.{Settled}
use Rattle.walk.proofs.Cleared.{cleared, cleared_length, cleared_later}
use Rattle.writer.specs.Writer.{Lines, Writes}
use Rattle.lines.specs.Turning.{no_link}
use Rattle.writer.specs.Writing.{WriteEnds, AskWriteReady, LinesReady, has_result}

module _ {rule : ℕ → Rule} {s : List ℕ} {v A p : ℕ} {T W out : List ℕ} (r : LinesReady rule s v A p T W out) {W₁ : List ℕ}
    (e : W₁ ≡ cleared (cells v (length s)) W) {root : ℕ} (i : root ≡ cell (length s) (A at p)) where
  root_below : root < cells v (length s)
  root_below = let b = cell_below v (length s) (A at p) r.ready.within in omega arith

  work_length : length W₁ ≡ length W
  work_length = ap length e ∙ cleared_length (cells v (length s)) W r.ready.work_room

  -- Where it ends, for the work slice as it was.
  pub lines_end : {W₂ out₂ : List ℕ} {count : ℕ} → WriteEnds rule s v (A at p) (set W₁ root no_link) W₂ out out₂ count
      → WriteEnds rule s v (A at p) W W₂ out out₂ count
  lines_end h =
      let N = cells v (length s) in
      record {
        beyond = h.beyond ∙ drop-set-lt N W₁ root no_link root_below ∙ ap (drop N) e ∙ cleared_later N W;
        size = h.size ∙ length-set W₁ root no_link ∙ work_length;
        lines = h.lines;
        ordered = h.ordered;
        counted = h.counted;
        written = h.written;
      }

-- The table that a question leaves holds the results of the pairs reached.
settled_at : {rule : ℕ → Rule} {s : List ℕ} (T : List ℕ) (v : ℕ) (y : Pair) (t : Result) → PairWithin v (length s) y → Holds rule s T y → Has rule s y (result t)
    → Settled (length s) (held (length s) T y) t
settled_at {rule} {s} T v (A at p) t w h d = record {
  code_is = h.2 ∙ ap code (has_one rule s (A at p) h.0 (result t) h.1 d);
  ends = ends_in p (length s) t (derives_ends rule s {x = A at p} w.position d.2);
}

-- ---- The question, and its lines.

result_of_law : (a : Reply) → has_result a ≡ true → (r : Result) × (outcome_of a ≡ result r)
result_of_law (reply (result r) z count) e = (r, refl)
result_of_law (reply (stopped w) z count) e = absurd (true≢false (cc))
result_of_law (reply loop z count) e = absurd (true≢false (cc))

nothing_written : (rule : ℕ → Rule) (s : List ℕ) (x : Pair) (a : Reply) → has_result a ≡ false → Lines rule s x (outcome_of a) []
nothing_written rule s x (reply (result r) z count) e = absurd (true≢false (cc))
nothing_written rule s x (reply (stopped w) z count) e = refl
nothing_written rule s x (reply loop z count) e = refl

module _ {rule : ℕ → Rule} {s : List ℕ} {v A p : ℕ} {T W out : List ℕ} (r : AskWriteReady rule s v A p T W out) {T₁ W₁ : List ℕ} {a : Reply}
    (answers : Answers rule v s (A at p) T T₁ W W₁ a) where
  outcome_is : outcome_of a ≡ answers.outcome
  outcome_is = ap outcome_of answers.says

  -- Loop and missing: nothing is written.
  pub writes_nothing : has_result a ≡ false → Writes rule s (A at p) (outcome_of a) out out 0
  unfolding lines_bytes
  writes_nothing f = record { lines = []; ordered = nothing_written rule s (A at p) a f; counted = refl; written = refl }

  module _ (f : has_result a ≡ true) where
    -- Success and failure: the lines may be written,
    pub may_write_lines : LinesReady rule s v A p T₁ W₁ out
    may_write_lines =
        let k = result_of_law a f in
        let z = answers.leaves.size in
        let y = answers.size in
        let q = r.ready in
        let m = q.room in
        let n = q.work_room in
        record {
          ready = record { few = q.few; short = q.short; closed = q.closed; within = q.within; room = omega arith; work_room = omega arith };
          finished = λ y t h d. settled_at T₁ v y t (reached_cell rule s v q.closed (A at p) q.within h).0 (answers.leaves.holds y h) d;
          found = k.0;
          has = subst (Has rule s (A at p)) (sym outcome_is ∙ k.1) answers.has;
          out_room = r.out_room;
        }

    module _ {W₂ out₂ : List ℕ} {count : ℕ} (h : WriteEnds rule s v (A at p) W₁ W₂ out out₂ count) where
      -- and the question is still answered,
      pub answers_still : Answers rule v s (A at p) T T₁ W W₂ a
      answers_still = record {
        outcome = answers.outcome;
        named = answers.named;
        has = answers.has;
        names = answers.names;
        says = answers.says;
        leaves = answers.leaves;
        beyond = h.beyond ∙ answers.beyond;
        size = h.size ∙ answers.size;
      }

      -- with its lines.
      pub writes_lines : Writes rule s (A at p) (outcome_of a) out out₂ count
      writes_lines = record {
        lines = h.lines;
        ordered = subst (λ (o : Outcome). Lines rule s (A at p) o h.lines) (sym (result_of_law a f).1) h.ordered;
        counted = h.counted;
        written = h.written;
      }
