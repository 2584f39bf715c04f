-- The output, from the promises of the verdict and of the writer. Assumes nothing.
use mathlib.Core.List.{List, [], ◌++◌, append-nil}
use mathlib.Core.Logic.{◌≢◌}
use mathlib.Core.Path.{◌≡◌, refl, sym, ap, ◌∙◌, subst}
use Prim.Native.Nat.{ℕ, ◌*◌, ◌≤◌}
use native.Mathlib.Omega.{arith}
use lib.ListN.{length, get_or, drop}
use Rattle.std.specs.Prelude.{Result as Results}
use Rattle.grammar.specs.declared.refusal.Refusal.{Refusal}
use Rattle.columns.specs.Column.{row}
use Rattle.grammar.specs.Refusal.{Checked, refused, accepted}
use Rattle.grammar.specs.Sheet.{Grammar}
use Rattle.schema.specs.Derivation.{Pair, ◌at◌, Outcome, Has}
use Rattle.schema.specs.Handed.{handed, verdict_of, writer_of}
use Rattle.schema.specs.Line.{lines_bytes}
use Rattle.schema.specs.Reached.{Reached, Number}
use Rattle.schema.proofs.Codes.{verdict_code_most}
use Rattle.schema.proofs.Handed.{handed_sheet}
use Rattle.schema.proofs.Laws.{has_one}
use Rattle.schema.proofs.LineLength.{lines_length}
use Rattle.schema.proofs.SheetClosed.{start_within}
use Rattle.finish.specs.Reply.{reply, outcome_of, count_of}
use Rattle.verdict.specs.Verdict.{numbers, judged, Judges, VerdictPromise}
use Rattle.writer.specs.Writer.{Lines, Writes, SaysWriting, RepliesWriting, told, lines_in}
use Rattle.verdict.specs.declared.Judgement.{Judgement}
use Rattle.memo.proofs.Result.{count_is}
use Rattle.output.specs.Output.{Printing, Writing, Certificate}
use Rattle.output.proofs.Accepting.{writer_accepted}

-- The code of an answer is not that of a refusal.
not_refused : (n : ℕ) (o : Outcome) (z : Pair) (count : ℕ) → get_or (judged n (accepted (reply o z count))) 0 0 ≢ 9
not_refused n o (A at p) count e = let k = verdict_code_most n o in omega arith

-- What the writer wrote, by the outcome of the start variable.
module _ (s input : List ℕ) (tables works : ℕ) (tables-are : tables ≡ 2048) (works-are : works ≡ 1024) (o o' : List ℕ) (count : ℕ) (room : 50176 ≤ length o)
    (g : Grammar) (h : handed s (verdict_of input 2048 1024) ≡ accepted g) (w : Writing s input tables works o o' count) where
  start : w.start ≡ g.start
  start = w.start_is g (handed_sheet s _ g h)

  accepts : handed s (writer_of input (w.start at 0) (length w.table) (length w.work) (length o)) ≡ accepted g
  accepts =
      ap (λ (A : ℕ). handed s (writer_of input (A at 0) (length w.table) (length w.work) (length o))) start
      ∙ ap (λ (k : ℕ). handed s (writer_of input (g.start at 0) k (length w.work) (length o))) (w.table_length ∙ tables-are)
      ∙ ap (λ (k : ℕ). handed s (writer_of input (g.start at 0) 2048 k (length o))) (w.work_length ∙ works-are)
      ∙ writer_accepted s input g h (length o) room

  said : SaysWriting g.rule g.variables input (w.start at 0) w.table w.table' w.work w.work' o o' (told w.written) (lines_in w.written)
  said =
      subst (λ (c : Checked Grammar).
      RepliesWriting c input (w.start at 0) w.table w.table' w.work w.work' o o' (told w.written) (lines_in w.written)) accepts w.promise

  start_lines : (q : Outcome) → Has g.rule input (g.start at 0) q → Writes g.rule input (g.start at 0) q o o' count
  start_lines q d =
      let b = said.2 in
      let u = said.3 in
      let same : outcome_of said.0 ≡ q =
      ap outcome_of b.says ∙ has_one g.rule input (g.start at 0) b.outcome q (subst (λ (A : ℕ). Has g.rule input (A at 0) b.outcome) start b.has) d in
      record {
        lines = u.lines;
        ordered =
            subst (λ (A : ℕ). Lines g.rule input (A at 0) q u.lines) start
            (subst (λ (r : Outcome). Lines g.rule input (w.start at 0) r u.lines) same u.ordered);
        counted = w.counts ∙ u.counted;
        written = u.written;
      }

-- What stands behind the first line: the bytes bs, then what stood there.
pub record Behind (s input : List ℕ) (j : Results Judgement Refusal) (o o' : List ℕ) (count : ℕ) : Type 0 where
  pub bytes : List ℕ
  pub printing : Printing (handed s (verdict_of input 2048 1024)) input (row 8 (numbers j) ++ bytes)
  pub size : length bytes ≡ 49 * count
  pub put : o' ≡ bytes ++ drop (length bytes) o

module _ (s input table table' work work' : List ℕ) (j : Results Judgement Refusal) (e : length table ≡ 2048) (f : length work ≡ 1024)
    (promise : VerdictPromise s input table table' work work' j) (o o' : List ℕ) (count : ℕ)
    {code tables works : ℕ} (code_is : code ≡ get_or (numbers j) 0 0) (tables-are : tables ≡ 2048) (works-are : works ≡ 1024)
    (certificate : Certificate s input code tables works o o' count) (room : 50176 ≤ length o) where
  -- A verdict that is refused has nothing there,
  refused_behind : (x l : ℕ) → handed s (verdict_of input 2048 1024) ≡ refused x l → numbers j ≡ judged (length input) (refused x l) → Behind s input j o o' count
  refused_behind x l h m =
      let n = certificate.nothing (code_is ∙ ap (λ (xs : List ℕ). get_or xs 0 0) m) in
      let k = n.0 in
      record {
        bytes = [];
        printing = subst (λ (c : Checked Grammar). Printing c input (row 8 (numbers j) ++ [])) (sym h) (append-nil (row 8 (numbers j)) ∙ ap (row 8) m);
        size = omega arith;
        put = n.1;
      }

  -- and every other its certificate.
  accepted_behind : (g : Grammar) → handed s (verdict_of input 2048 1024) ≡ accepted g
      → Judges (accepted g) input table table' work work' (numbers j) → Behind s input j o o' count
  accepted_behind g h m =
      let a = m.2.2 in
      let same : numbers j ≡ judged (length input) (accepted (reply a.outcome a.named _)) = m.1 ∙ ap (judged (length input)) (m.2.1 ∙ ap accepted a.says) in
      let w = certificate.writing λ q. not_refused (length input) a.outcome a.named _ (ap (λ (xs : List ℕ). get_or xs 0 0) (sym same) ∙ sym code_is ∙ q) in
      let u = start_lines s input tables works tables-are works-are o o' count room g h w a.outcome a.has in
      let z = lines_length u.lines in
      record {
        bytes = lines_bytes u.lines;
        printing = subst (λ (q : Checked Grammar). Printing q input (row 8 (numbers j) ++ lines_bytes u.lines)) (sym h) record {
          outcome = a.outcome;
          named = a.named;
          count = _;
          lines = u.lines;
          has = a.has;
          names = a.names;
          counts = subst (Number (Reached g.rule input (g.start at 0))) (ap count_of a.says)
              (count_is s (verdict_of input 2048 1024) g h (g.start at 0) (start_within s g (handed_sheet s _ g h)) a);
          ordered = u.ordered;
          says = ap (λ (xs : List ℕ). row 8 xs ++ lines_bytes u.lines) same;
        };
        size = let d = u.counted in z ∙ omega arith;
        put = u.written ∙ ap (λ (i : ℕ). lines_bytes u.lines ++ drop i o) (sym z);
      }

  pub behind : Behind s input j o o' count
  behind = by_sheet (handed s (verdict_of input 2048 1024)) refl (rw (e, f) at promise)
    where
      by_sheet : (c : Checked Grammar) → handed s (verdict_of input 2048 1024) ≡ c → Judges c input table table' work work' (numbers j) → Behind s input j o o' count
      by_sheet (refused x l) h m = refused_behind x l h m.0
      by_sheet (accepted g) h m = accepted_behind g h m
