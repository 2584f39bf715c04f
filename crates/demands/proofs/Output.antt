-- Demands 1 and 2 for the output of the program, of whatever meets its contract. Assumes nothing.
use mathlib.Core.Bool.{Bool, true≢false}
use mathlib.Core.List.{List, [], ◌∷◌, ◌++◌, append_assoc}
use mathlib.Core.Logic.{◌↔◌}
use mathlib.Core.Option.{Option, none, some}
use mathlib.Core.Path.{◌≡◌, refl, sym, ap, ◌∙◌, subst}
use Prim.Native.Nat.{ℕ, ◌-◌, ◌≤◌, ◌<◌}
use native.Mathlib.Omega.{arith}
use lib.ListN.{length, take, drop, length-append}
use lib.Seq.{take_at, drop_at}
use borrow.Author.Tests.{lt-ltb, le-ltb}
use Rattle.std.specs.Prelude.{Result as Results}
use Rattle.columns.specs.Column.{column, row, field, fields, cons_to}
use Rattle.columns.proofs.Rows.{row_length, field_read, row_read}
use Rattle.grammar.specs.Refusal.{Checked, refused, accepted}
use Rattle.grammar.specs.Sheet.{Grammar}
use Rattle.schema.specs.Derivation.{Pair, ◌at◌, Result, Outcome, result, Has}
use Rattle.schema.specs.Handed.{Handed, Refuses, handed, asked, verdict_of, writer_of}
use Rattle.schema.specs.Line.{lines_bytes}
use Rattle.schema.specs.Verdict.{verdict_code}
use Rattle.schema.proofs.CallRefusals.{call_refused}
use Rattle.schema.proofs.Laws.{has_one}
use Rattle.schema.proofs.Codes.{verdict_code_most}
use Rattle.schema.proofs.Small.{refusal_small, refusal_line}
use Rattle.rules.proofs.Admitted.{question_accepted}
use Rattle.finish.specs.Reply.{reply}
use Rattle.verdict.specs.Verdict.{position_for, judged}
use Rattle.writer.specs.Writer.{Lines}
use Rattle.checker.specs.Checker.{Checks}
use Rattle.checker.specs.Proper.{Claims}
use Rattle.checker.specs.declared.Claim.{Claim}
use Rattle.checker.specs.declared.Rejection.{Rejection}
use Rattle.demands.proofs.Demand2.{lines_pass}
use Rattle.output.specs.Output.{Printing, Puts, PutsWhere, OutputPromise}
use Rattle.output.proofs.Accepting.{writer_accepted}

-- The first line of an answer: its code first, and 33 bytes.
code_first : (n : ℕ) (o : Outcome) (z : Pair) (count : ℕ) → (rest : List ℕ) × (row 8 (judged n (accepted (reply o z count))) ≡ column 8 (verdict_code n o) ++ rest)
unfolding row
code_first n o (A at p) count = (row 8 (A ∷ position_for o p ∷ count ∷ []), refl)

line_size : (n : ℕ) (o : Outcome) (z : Pair) (count : ℕ) → length (row 8 (judged n (accepted (reply o z count)))) ≡ 33
line_size n o (A at p) count = row_length 8 _

first_is : (k : ℕ) (others : Option (List ℕ)) (xs : List ℕ) → cons_to (some k) others ≡ some (9 ∷ xs) → k ≡ 9
first_is k none xs e = absurd (true≢false (cc))
first_is k (some ys) xs e = cc

module _ (s input out out' : List ℕ) (r : ℕ) (promise : OutputPromise s input out out' r) where
  abbrev call : Handed
  call = verdict_of input 2048 1024

  -- A slice of fewer than 50,209 bytes is left as it is.
  pub short_unchanged : length out < 50209 → (r ≡ 0) × (out' ≡ out)
  short_unchanged l = subst (λ (t : Bool). PutsWhere t s input out out' r) (lt-ltb (length out) 50209 l) promise

  module _ (room : 50209 ≤ length out) where
    puts : Puts s input out out' r
    puts = subst (λ (t : Bool). PutsWhere t s input out out' r) (le-ltb (length out) 50209 room) promise

    printing : (o : Checked Grammar) → handed s call ≡ o → Printing o input puts.0
    printing o e = subst (λ (o : Checked Grammar). Printing o input puts.0) e puts.1

    -- ---- Demand 1, "with one numbered refusal under exactly the condition in document 01".

    refused_puts : (x l : ℕ) → handed s call ≡ refused x l → (r ≡ 33) × (out' ≡ row 8 (9 ∷ x ∷ l ∷ 0 ∷ []) ++ drop 33 out)
    refused_puts x l e =
        let line = row 8 (9 ∷ x ∷ l ∷ 0 ∷ []) in
        let bytes : puts.0 ≡ line = printing (refused x l) e in
        let size : length puts.0 ≡ 33 = ap length bytes ∙ row_length 8 (9 ∷ x ∷ l ∷ 0 ∷ []) in (
          puts.2 ∙ size,
          puts.3 ∙ ap (λ (b : List ℕ). b ++ drop (length puts.0) out) bytes ∙ ap (λ (k : ℕ). line ++ drop k out) size,
        )

    refused_reads : (x l : ℕ) → handed s call ≡ refused x l → fields 4 8 out' 0 ≡ some (9 ∷ x ∷ l ∷ 0 ∷ [])
    refused_reads x l e =
        let n = refusal_small s call x l e in
        let m = refusal_line s call x l e in
        ap (λ (o : List ℕ). fields 4 8 o 0) (refused_puts x l e).1
        ∙ row_read 7 (9 ∷ x ∷ l ∷ 0 ∷ []) [] (drop 33 out) (omega arith, (omega arith, (omega arith, (omega arith, tt))))

    -- An answer does not begin with 9.
    accepted_reads : (g : Grammar) → handed s call ≡ accepted g → (xs : List ℕ) → fields 4 8 out' 0 ≡ some (9 ∷ xs) → ⊥
    unfolding fields
    accepted_reads g e xs f =
        let p = printing (accepted g) e in
        let c = verdict_code (length input) p.outcome in
        let small = verdict_code_most (length input) p.outcome in
        let h = code_first (length input) p.outcome p.named p.count in
        let behind = drop (length puts.0) out in
        let whole : out' ≡ column 8 c ++ (h.0 ++ (lines_bytes p.lines ++ behind)) =
        puts.3 ∙ ap (λ (b : List ℕ). b ++ behind) (p.says ∙ ap (λ (b : List ℕ). b ++ lines_bytes p.lines) h.1) ∙ simp append_assoc in
        let first : field 8 out' 0 ≡ some c =
        ap (λ (o : List ℕ). field 8 o 0) whole ∙ field_read 7 c [] (h.0 ++ (lines_bytes p.lines ++ behind)) (omega arith) in
        let nine = first_is c (fields 3 8 out' 8) xs (ap (λ (o : Option ℕ). cons_to o (fields 3 8 out' 8)) (sym first) ∙ f) in
        omega arith

    -- The output begins with 9, number, line, 0 exactly under that refusal's condition,
    pub output_refused : (x l : ℕ) → (fields 4 8 out' 0 ≡ some (9 ∷ x ∷ l ∷ 0 ∷ [])) ↔ Refuses s (verdict_of input 2048 1024) x l
    output_refused x l = (λ f. by_sheet f (handed s call) refl, λ f. refused_reads x l ((call_refused s call x l).1 f))
      where
        by_sheet : fields 4 8 out' 0 ≡ some (9 ∷ x ∷ l ∷ 0 ∷ []) → (o : Checked Grammar) → handed s call ≡ o → Refuses s (verdict_of input 2048 1024) x l
        by_sheet f (refused y m) e = let k = refused_reads y m e in (call_refused s call x l).0 (cc)
        by_sheet f (accepted g) e = absurd (accepted_reads g e (x ∷ l ∷ 0 ∷ []) f)

    -- and then nothing more is written.
    pub nothing_more : (x l : ℕ) → Refuses s (verdict_of input 2048 1024) x l → (r ≡ 33) × (out' ≡ row 8 (9 ∷ x ∷ l ∷ 0 ∷ []) ++ drop 33 out)
    nothing_more x l f = refused_puts x l ((call_refused s call x l).1 f)

    -- ---- Demand 2, "every reading we write passes".

    module _ (g : Grammar) (accepts : handed s (verdict_of input 2048 1024) ≡ accepted g) (t : Result) (has : Has g.rule input (g.start at 0) (result t)) where
      plain : handed s (asked input (g.start at 0)) ≡ accepted g
      plain = question_accepted s (writer_of input (g.start at 0) 2048 1024 50176) g g.start 0 (writer_accepted s input g accepts 50176 (omega arith)) refl

      reading_is : take (r - 33) (drop 33 out') ≡ lines_bytes (printing (accepted g) accepts).lines
      reading_is =
          let p = printing (accepted g) accepts in
          let line = row 8 (judged (length input) (accepted (reply p.outcome p.named p.count))) in
          let reading = lines_bytes p.lines in
          let behind = drop (length puts.0) out in
          let size : length line ≡ 33 = line_size (length input) p.outcome p.named p.count in
          let whole : out' ≡ line ++ (reading ++ behind) = puts.3 ∙ ap (λ (b : List ℕ). b ++ behind) p.says ∙ append_assoc line reading behind in
          let n = puts.2 ∙ ap length p.says ∙ length-append line reading in
          let rest : length reading ≡ r - 33 = omega arith in
          ap (λ (o : List ℕ). take (r - 33) (drop 33 o)) whole ∙ ap (take (r - 33)) (drop_at line (reading ++ behind) 33 size) ∙ take_at reading behind (r - 33) rest

      -- What stands behind the first line, where the start variable has a result at 0, passes, with this result.
      pub reading_passes : (c : Results Claim Rejection) → Checks s input (g.start at 0) (take (r - 33) (drop 33 out')) c → Claims c (g.start at 0) t
      reading_passes c checks =
          let p = printing (accepted g) accepts in
          let same : p.outcome ≡ result t = has_one g.rule input (g.start at 0) p.outcome (result t) p.has has in
          lines_pass s input g.start 0 g plain t has p.lines (subst (λ (o : Outcome). Lines g.rule input (g.start at 0) o p.lines) same p.ordered) c
          (subst (λ (bytes : List ℕ). Checks s input (g.start at 0) bytes c) reading_is checks)
