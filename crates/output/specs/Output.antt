-- Document 01, "Program `readentry`": its output. Assumes nothing.
use Rattle.std.specs.Prelude.{Bool, true, false, List, ◌++◌, ◌≢◌, ◌≡◌, ℕ, ltb, length, drop, Result as Results}
use Rattle.columns.specs.Column.{row}
use Rattle.grammar.specs.Refusal.{Checked, refused, accepted}
use Rattle.grammar.specs.Rule.{Rule}
use Rattle.grammar.specs.Sheet.{Grammar, sheet}
use Rattle.grammar.specs.declared.refusal.Refusal.{Refusal}
use Rattle.schema.specs.Derivation.{Pair, ◌at◌, Outcome, Has}
use Rattle.schema.specs.Handed.{handed, verdict_of}
use Rattle.schema.specs.Line.{Line, lines_bytes}
use Rattle.schema.specs.Reached.{Reached, Named, Number}
use Rattle.finish.specs.Reply.{reply}
use Rattle.verdict.specs.Verdict.{judged}
use Rattle.writer.specs.Writer.{Lines, lines_in, WriterPromise}
use Rattle.writer.specs.declared.Written.{Written}

-- The output for an answer about x: "Its first line has four fields of 8: code .., named variable or refusal number, place .., cells";
-- "The reading follows for 0, 1, 5."
pub record Printed (rule : ℕ → Rule) (input : List ℕ) (x : Pair) (bytes : List ℕ) : Type 0 where
  pub outcome : Outcome
  pub named : Pair
  pub count : ℕ
  pub lines : List Line
  pub has : Has rule input x outcome
  pub names : Named rule input x outcome named
  pub counts : Number (Reached rule input x) count
  pub ordered : Lines rule input x outcome lines
  pub says : bytes ≡ row 8 (judged (length input) (accepted (reply outcome named count))) ++ lines_bytes lines

-- The same for a refusal: the first line only.
abbrev pub Printing : Checked Grammar → List ℕ → List ℕ → Type 0
Printing (refused number line) input bytes = bytes ≡ row 8 (judged (length input) (refused number line))
Printing (accepted g) input bytes = Printed g.rule input (g.start at 0) bytes

-- "with 1,024 cells": these bytes, then what stood there, and their count.
abbrev pub Puts : List ℕ → List ℕ → List ℕ → List ℕ → ℕ → Type 0
Puts s input out out' r = (bytes : List ℕ) × Printing (handed s (verdict_of input 2048 1024)) input bytes × (r ≡ length bytes) × (out' ≡ bytes ++ drop (length bytes) out)

-- A slice of fewer than 33 + 50,176 bytes is left as it is.
abbrev pub PutsWhere : Bool → List ℕ → List ℕ → List ℕ → List ℕ → ℕ → Type 0
PutsWhere true s input out out' r = (r ≡ 0) × (out' ≡ out)
PutsWhere false s input out out' r = Puts s input out out' r

-- "an output of 50,176 bytes", behind the 33 of the first line.
abbrev pub OutputPromise : List ℕ → List ℕ → List ℕ → List ℕ → ℕ → Type 0
OutputPromise s input out out' r = PutsWhere (ltb (length out) 50209) s input out out' r

-- ---- What the steps ask.

-- The start variable of an accepted sheet.
abbrev pub StartOf : List ℕ → ℕ → Type 0
StartOf s A = (g : Grammar) → sheet s ≡ accepted g → A ≡ g.start

-- What the writer did for the start variable, with slices of these lengths.
pub record Writing (s input : List ℕ) (tables works : ℕ) (out out' : List ℕ) (r : ℕ) : Type 0 where
  pub start : ℕ
  pub start_is : StartOf s start
  pub table : List ℕ
  pub table' : List ℕ
  pub work : List ℕ
  pub work' : List ℕ
  pub table_length : length table ≡ tables
  pub work_length : length work ≡ works
  pub written : Results Written Refusal
  pub promise : WriterPromise s input start 0 table table' work work' out out' written
  pub counts : r ≡ lines_in written

-- Nothing after a refusal.
pub record Certificate (s input : List ℕ) (code tables works : ℕ) (out out' : List ℕ) (r : ℕ) : Type 0 where
  pub nothing : code ≡ 9 → (r ≡ 0) × (out' ≡ out)
  pub writing : code ≢ 9 → Writing s input tables works out out' r
