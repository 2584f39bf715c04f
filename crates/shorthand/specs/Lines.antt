-- Document 02, order 1: the lines of a text, read one after another, and the rules that are stored. Assumes nothing.
use Rattle.std.specs.Prelude.{Bool, true, false, cond, not, ◌&&◌, Option, Some, None, Result, Ok, Err, List, [], ◌∷◌, ◌++◌, ◌≡◌, ℕ, ◌+◌, ◌-◌, ◌≤◌, ◌<◌, eqb, length, get_or, drop}
use Rattle.grammar.specs.Numbers.{number_of, line_of}
use Rattle.grammar.specs.Refusal.{refused, accepted}
use Rattle.grammar.specs.declared.refusal.Refusal.{Refusal}
use Rattle.grammar.specs.Rule.{Rule, call}
use Rattle.grammar.specs.Words.{words}
use Rattle.notation.specs.Emit.{Rules, with, choice_rules, ruled, line_rules}
use Rattle.notation.specs.Scan.{before, defined, scan, lines_of}
use Rattle.notation.specs.Text.{Choice, Line, line, choice_cost, cost, capital}
use Rattle.pieces.specs.Store.{capped, Stored, Few}
use Rattle.pieces.specs.declared.Piece.{Piece}

-- The array says of each letter whether it has one of these lines.
pub record Defines (ls : List Line) (lines : List Bool) : Type 0 where
  pub size : length lines ≡ 26
  pub held : (A : ℕ) → capital A ≡ true → defined ls A ≡ get_or lines (A - 65) false

-- "a capital letter (65-90), `=`", of a letter that has no line yet.
unfoldable pub opens_line : List ℕ → ℕ → List Bool → Bool
opens_line s at lines = capital (get_or s at 0) && (not (get_or lines (get_or s at 0 - 65) false) && eqb (get_or s (at + 1) 0) 61)

-- That letter, counted from A.
abbrev pub opened_letter : List ℕ → ℕ → List Bool → Option ℕ
opened_letter s at lines = cond (opens_line s at lines) (Some (get_or s at 0 - 65)) None

-- The words of the rules, with that of a letter: it acts as the variable y.
abbrev pub Names : ℕ → ℕ → ℕ → List ℕ → List ℕ → Type 0
Names number E y ws ws' = (f : ℕ → Rule) → ws ≡ words f → ws' ≡ words (with f number (call y E (E + 1)))

-- ---- One line.

pub record LineReady (s : List ℕ) (from : Piece) : Type 0 where
  pub inside : from.at < length s
  pub few : Few from

-- By the variable of each capital, and E, the variable that always succeeds; the one behind E always fails.
module _ (number : ℕ → ℕ) (E : ℕ) where
  -- A line was read from one end to another, and its rules stored.
  pub record LineFinds (s : List ℕ) (from : Piece) (lines : List Bool) (ws : List ℕ) (p : Piece) (lines' : List Bool) (ws' : List ℕ) : Type 0 where
    pub letter : ℕ
    pub choice : Choice
    pub low : from.at < p.at
    pub high : p.at ≤ length s
    pub moves : (ls : List Line) → Defines ls lines → scan (drop from.at s) (before ls) ≡ scan (drop p.at s) (before (ls ++ line letter choice ∷ []))
    pub defines : (ls : List Line) → Defines ls lines → Defines (ls ++ line letter choice ∷ []) lines'
    pub few : Few p
    pub cost_is : p.cost ≡ capped (from.cost + choice_cost choice)
    pub stores : (z : Rules) → Stored z from.last ws → Stored (ruled number E (E + 1) letter (choice_rules number E (E + 1) choice z)) p.last ws'

  -- What a reader of a line promises: one that is found, or a refusal.
  abbrev pub LineReads : List ℕ → Piece → List Bool → List ℕ → Result Piece Refusal → List Bool → List ℕ → Type 0
  LineReads s from lines ws (Ok p) lines' ws' = LineFinds s from lines ws p lines' ws'
  LineReads s from lines ws (Err e) lines' ws' = (ls : List Line) → Defines ls lines → scan (drop from.at s) (before ls) ≡ refused (number_of e) (line_of e)

-- ---- All lines.

pub record LinesReady (s : List ℕ) (from : Piece) : Type 0 where
  pub begins : from.at ≡ 0
  pub few : Few from

module _ (number : ℕ → ℕ) (E : ℕ) where
  -- The lines of the text, their cost, and their rules.
  pub record LinesFound (s : List ℕ) (from : Piece) (ws : List ℕ) (p : Piece) (ws' : List ℕ) : Type 0 where
    pub lines : List Line
    pub lines_are : lines_of s ≡ accepted lines
    pub few : Few p
    pub cost_is : p.cost ≡ capped (from.cost + cost lines)
    pub stores : (z : Rules) → Stored z from.last ws → Stored (line_rules number E (E + 1) lines z) p.last ws'

  -- What the reader of a text promises: its lines, or its refusal.
  abbrev pub LinesRead : List ℕ → Piece → List ℕ → Result Piece Refusal → List ℕ → Type 0
  LinesRead s from ws (Ok p) ws' = LinesFound s from ws p ws'
  LinesRead s from ws (Err e) ws' = lines_of s ≡ refused (number_of e) (line_of e)
