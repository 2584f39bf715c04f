-- Document 01, "Marked entries": cases a to j as one list, and what it is that a case holds. Assumes nothing.
use Rattle.std.specs.Prelude.{List, [], ◌∷◌, ◌≡◌, ℕ, length}
use Rattle.std.proofs.Math.Option.{Option, none, some}
use Rattle.grammar.specs.Refusal.{Checked, refused, accepted}
use Rattle.grammar.specs.Rule.{Rule}
use Rattle.grammar.specs.Sheet.{Grammar}
use Rattle.grammar.specs.Printing.{text}
use Rattle.schema.specs.Derivation.{Pair, ◌at◌, success, failure, missing, Derives, Outcome, result, stopped, loop, Has}
use Rattle.schema.specs.Handed.{handed, question_of, verdict_of}
use Rattle.schema.specs.Machine.{says, spent, no_frame, Ran, ran, machine}
use Rattle.schema.specs.Reached.{Reached, Named, Number}
use Rattle.schema.specs.Verdict.{verdict_code}

-- A case: the sheet's lines, the input, the budget and the room of a run; then what document 01 gives: the outcome, the named pair (0 at 0 for
-- none), the count of cells, steps and height of the derivation if there is one, the run with its moves, the verdict's code or refusal.
pub record Case : Type 0 where
  pub lines : List (List ℕ)
  pub input : List ℕ
  pub budget : ℕ
  pub room : ℕ
  pub outcome : Outcome
  pub named : Pair
  pub count : ℕ
  pub steps : Option (ℕ × ℕ)
  pub run : Ran
  pub verdict : Checked ℕ

-- A case by its parts.
abbrev pub case : List (List ℕ) → List ℕ → ℕ → ℕ → Outcome → Pair → ℕ → Option (ℕ × ℕ) → Ran → Checked ℕ → Case
case lines input budget room outcome named count steps run verdict =
    record {
      lines = lines;
      input = input;
      budget = budget;
      room = room;
      outcome = outcome;
      named = named;
      count = count;
      steps = steps;
      run = run;
      verdict = verdict;
    }

-- "Sheet H"
abbrev pub sheet_h : List (List ℕ)
sheet_h =
    (6 ∷ 1 ∷ 46 ∷ 0 ∷ 0 ∷ [])
    ∷ (1 ∷ 4 ∷ 2 ∷ 3 ∷ 3 ∷ [])
    ∷ (2 ∷ 2 ∷ 45 ∷ 0 ∷ 0 ∷ [])
    ∷ (3 ∷ 4 ∷ 4 ∷ 5 ∷ 6 ∷ [])
    ∷ (4 ∷ 3 ∷ 1 ∷ 0 ∷ 0 ∷ [])
    ∷ (5 ∷ 2 ∷ 46 ∷ 0 ∷ 0 ∷ [])
    ∷ (6 ∷ 1 ∷ 0 ∷ 0 ∷ 0 ∷ [])
    ∷ []

-- "In g to j, V is the greatest variable named, start 1, endmarker 46."
abbrev pub header : ℕ → List ℕ
header v = v ∷ 1 ∷ 46 ∷ 0 ∷ 0 ∷ []

-- The list.
unfoldable pub cases : List Case
cases =
    -- "a. H, `-6.`: success ending 3, 5 cells, k 5, 9 moves, 3 frames."
    case sheet_h (45 ∷ 54 ∷ 46 ∷ []) 9 3 (result (success 3)) (0 at 0) 5 (some (5, 3)) (ran (says (result (success 3))) 9) (accepted 0)
    -- "b. The same, budget 8: spent."
    ∷ case sheet_h (45 ∷ 54 ∷ 46 ∷ []) 8 3 (result (success 3)) (0 at 0) 5 (some (5, 3)) (ran spent 8) (accepted 0)
    -- "c. Room 2: no frame, 3 moves."
    ∷ case sheet_h (45 ∷ 54 ∷ 46 ∷ []) 9 2 (result (success 3)) (0 at 0) 5 (some (5, 3)) (ran no_frame 3) (accepted 0)
    -- "d. H, `6.`: success ending 2, 5 cells."
    ∷ case sheet_h (54 ∷ 46 ∷ []) 9 3 (result (success 2)) (0 at 0) 5 (some (5, 3)) (ran (says (result (success 2))) 9) (accepted 0)
    -- e. H, `-6`; order 11: "case e becomes a failure with 5 cells".
    ∷ case sheet_h (45 ∷ 54 ∷ []) 100 20 (result failure) (0 at 0) 5 (some (5, 3)) (ran (says (result failure)) 9) (accepted 1)
    -- "f. H, `x`: failure, 5 cells."
    ∷ case sheet_h (120 ∷ []) 9 3 (result failure) (0 at 0) 5 (some (5, 3)) (ran (says (result failure)) 9) (accepted 1)
    -- "g. Rule 1 = 1(1,1), empty entry: loop, named (1, 0), 1 cell."
    ∷ case (header 1 ∷ (1 ∷ 4 ∷ 1 ∷ 1 ∷ 1 ∷ []) ∷ []) [] 100 20 loop (1 at 0) 1 none (ran no_frame 19) (accepted 2)
    -- "h. 1 = 2(1,3), 2 succeeds, 3 fails: loop, named (1, 0), 2 cells."
    ∷ case (header 3 ∷ (1 ∷ 4 ∷ 2 ∷ 1 ∷ 3 ∷ []) ∷ (2 ∷ 0 ∷ 0 ∷ 0 ∷ 0 ∷ []) ∷ (3 ∷ 1 ∷ 0 ∷ 0 ∷ 0 ∷ []) ∷ []) [] 20 20 loop (1 at 0) 2 none (ran spent 20)
    (accepted 2)
    -- "i. 1 = 2(1,3), 2 = byte 97, 3 succeeds, `aa.`: success ending 2, 7 cells, 13 moves; verdict partial."
    ∷ case (header 3 ∷ (1 ∷ 4 ∷ 2 ∷ 1 ∷ 3 ∷ []) ∷ (2 ∷ 2 ∷ 97 ∷ 0 ∷ 0 ∷ []) ∷ (3 ∷ 0 ∷ 0 ∷ 0 ∷ 0 ∷ []) ∷ []) (97 ∷ 97 ∷ 46 ∷ []) 13 4
    (result (success 2)) (0 at 0) 7 (some (7, 4)) (ran (says (result (success 2))) 13) (accepted 5)
    -- "j. 1 = 2(2,2), no rule 2: missing, named (2, 0), 2 cells, 1 move."
    ∷ case (header 2 ∷ (1 ∷ 4 ∷ 2 ∷ 2 ∷ 2 ∷ []) ∷ []) [] 1 2 (stopped missing) (2 at 0) 2 none (ran (says (stopped missing)) 1) (accepted 3)
    ∷ []

-- ---- What it is that a case holds.

-- "Variable 1, place 0 throughout."
abbrev pub first_pair : Pair
first_pair = 1 at 0

-- Steps and height, where they are given, are those of a derivation of the outcome.
abbrev pub Derived : (ℕ → Rule) → List ℕ → Pair → Outcome → Option (ℕ × ℕ) → Type 0
Derived rule s x o none = Unit {0}
Derived rule s x (result r) (some kh) = Derives rule s x r kh.0 kh.1
Derived rule s x (stopped w) (some kh) = ⊥
Derived rule s x loop (some kh) = ⊥

-- The verdict's code for the outcome of the start variable, or its refusal.
abbrev pub judged : ℕ → Outcome → Checked Grammar → Checked ℕ
judged n o (refused number line) = refused number line
judged n o (accepted g) = accepted (verdict_code n o)

-- The sheet is accepted, and the definitions give what the case says; table and work slice have 1,024 cells.
pub record CaseHolds (c : Case) : Type 0 where
  pub grammar : Grammar
  pub reads : handed (text c.lines) (question_of c.input first_pair 2048 1024) ≡ accepted grammar
  pub has : Has grammar.rule c.input first_pair c.outcome
  pub names : Named grammar.rule c.input first_pair c.outcome c.named
  pub counts : Number (Reached grammar.rule c.input first_pair) c.count
  pub derived : Derived grammar.rule c.input first_pair c.outcome c.steps
  pub runs : machine grammar.rule c.input first_pair c.budget c.room ≡ c.run
  pub starts : grammar.start ≡ 1
  pub judges : judged (length c.input) c.outcome (handed (text c.lines) (verdict_of c.input 2048 1024)) ≡ c.verdict
