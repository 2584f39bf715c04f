-- The writer, from its admission on. Assumes nothing.
use mathlib.Core.Path.{◌≡◌, refl, sym, ap, ◌∙◌}
use mathlib.Core.Bool.{Bool, true, false, cond, ◌||◌}
use mathlib.Core.List.{List}
use Prim.Native.Nat.{ℕ, ◌*◌}
use lib.Dec.{ltb}
use lib.ListN.{length}
use borrow.Author.Tests.{ltb-false}
use Rattle.std.specs.Prelude.{Result as Checkable, Ok, Err}
use Rattle.grammar.specs.Numbers.{number_of, line_of}
use Rattle.grammar.specs.Refusal.{Checked, refused, accepted, checked}
use Rattle.grammar.specs.Sheet.{Grammar, sheet}
use Rattle.grammar.specs.Words.{rule_in}
use Rattle.grammar.specs.declared.sheet.Grammar.{Grammar as Line}
use Rattle.grammar.specs.declared.refusal.Refusal.{Refusal}
use Rattle.grammar.proofs.Told.{Reads}
use Rattle.rules.specs.Admission.{Admits}
use Rattle.schema.specs.Derivation.{◌at◌}
use Rattle.schema.specs.Handed.{pair_variable_out, pair_position_out, call_condition, call_order, handed, question_of, writer_of}
use Rattle.schema.specs.Table.{cells}
use Rattle.schema.proofs.Tested.{handed_refused, handed_then}
use Rattle.finish.specs.Reply.{Reply, outcome_of}
use Rattle.writer.specs.Writer.{Writes, SaysWriting, RepliesWriting}
use Rattle.writer.specs.Writing.{AskWriteReady}
use Rattle.memo.specs.Answer.{Answers}
use Rattle.memo.proofs.Questioned.{ask_ready}
use Rattle.memo.proofs.Ready as ready

-- What the writer tests after a question's refusals: 11.
abbrev with_output : ℕ → ℕ → Checked Grammar → Checked Grammar
with_output n out (refused x l) = refused x l
with_output n out (accepted g) = cond (ltb out (49 * cells g.variables n)) (refused 11 0) (accepted g)

by_tests : (n out : ℕ) (g : Grammar) (a b c d : Bool) → cond a (refused 6 0) (cond b (refused 8 0) (cond c (refused 9 0) (cond d (refused 10 0)
    (cond (ltb out (49 * cells g.variables n)) (refused 11 0) (accepted g)))))
    ≡ with_output n out (cond a (refused 6 0) (cond b (refused 8 0) (cond c (refused 9 0) (cond d (refused 10 0) (accepted g)))))
by_tests n out g true b c d = refl
by_tests n out g false true c d = refl
by_tests n out g false false true d = refl
by_tests n out g false false false true = refl
by_tests n out g false false false false = refl

module _ (s input : List ℕ) (A p table work out : ℕ) where
  then_tested : (g : Grammar) → checked (call_condition g (writer_of input (A at p) table work out)) call_order g
      ≡ with_output (length input) out (checked (call_condition g (question_of input (A at p) table work)) call_order g)
  unfolding checked call_condition
  then_tested g =
      by_tests (length input) out g (ltb 4096 (length input)) (pair_variable_out g.variables (A at p)) (pair_position_out (length input) (A at p))
      (ltb table (2 * cells g.variables (length input)) || ltb work (cells g.variables (length input)))

  -- The writer is refused as the question is; else 11 is tested.
  pub writer_follows : handed s (writer_of input (A at p) table work out) ≡ with_output (length input) out (handed s (question_of input (A at p) table work))
  writer_follows = by_sheet (sheet s) refl
    where
      by_sheet : (q : Checked Grammar) → sheet s ≡ q
          → handed s (writer_of input (A at p) table work out) ≡ with_output (length input) out (handed s (question_of input (A at p) table work))
      by_sheet (refused x l) h =
          handed_refused s (writer_of input (A at p) table work out) x l h
          ∙ ap (with_output (length input) out) (sym (handed_refused s (question_of input (A at p) table work) x l h))
      by_sheet (accepted g) h =
          handed_then s (writer_of input (A at p) table work out) g h ∙ then_tested g
          ∙ ap (with_output (length input) out) (sym (handed_then s (question_of input (A at p) table work) g h))

module _ (s input : List ℕ) (A p : ℕ) (table work out : List ℕ) {before after : List ℕ} {r : Checkable Line Refusal}
    (admission : Admits s (question_of input (A at p) (length table) (length work)) before after r) where
  -- The call with its answer, its count of lines and what it leaves.
  abbrev Replied : Checked Reply → ℕ → List ℕ → List ℕ → List ℕ → Type 0
  Replied t count table' work' out' =
      RepliesWriting (handed s (writer_of input (A at p) (length table) (length work) (length out))) input (A at p) table table' work work' out out' t count

  -- Refused as the question is.
  pub writer_refused : {n : Refusal} {t : Checked Reply} {count : ℕ} → r ≡ Err n → t ≡ refused (number_of n) (line_of n) → count ≡ 0 → Replied t count table work out
  writer_refused e t k =
      rw (writer_follows s input A p (length table) (length work) (length out), ready.not_admitted s (question_of input (A at p) (length table) (length work)) admission e)
      (t, refl, refl, refl, k)

  module _ {g : Line} (e : r ≡ Ok g) {few : Bool} (measured : few ≡ ltb (length out) (49 * cells g.variables (length input))) where
    abbrev read : Reads (handed s (question_of input (A at p) (length table) (length work))) g
    read = ready.admitted s (question_of input (A at p) (length table) (length work)) admission e

    follows : handed s (writer_of input (A at p) (length table) (length work) (length out)) ≡ cond few (refused 11 0) (accepted read.grammar)
    follows = writer_follows s input A p (length table) (length work) (length out) ∙ rw (read.accepts, read.variables_are, measured)

    -- Refused for the output.
    pub writer_output : few ≡ true → Replied (refused 11 0) 0 table work out
    writer_output f = rw (follows, f) (refl, refl, refl, refl, refl)

    -- What asking and writing is handed.
    pub write_ready : few ≡ false → AskWriteReady (rule_in after) input g.variables A p table work out
    write_ready f = record {
      ready = ask_ready s input A p table work admission e;
      out_room = ltb-false (length out) (49 * cells g.variables (length input)) (sym measured ∙ f);
    }

    -- The answer with its lines.
    pub writer_replies : {table' work' out' : List ℕ} {a : Reply} {count : ℕ} → few ≡ false
        → Answers (rule_in after) g.variables input (A at p) table table' work work' a → Writes (rule_in after) input (A at p) (outcome_of a) out out' count
        → Replied (accepted a) count table' work' out'
    writer_replies {table'} {work'} {out'} {a} {count} f answers writes =
        rw (follows, f)
        (ready.of_grammar s (question_of input (A at p) (length table) (length work)) admission e
        (λ k v B. SaysWriting k v input (A at p) table table' work work' out out' (accepted a) count) (a, refl, answers, writes))
