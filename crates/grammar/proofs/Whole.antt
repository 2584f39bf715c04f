-- The whole sheet: its lines, line 1, and the rule lines. Assumes nothing.
use mathlib.Core.Path.{◌≡◌, refl, ap, sym, ◌∙◌}
use mathlib.Core.Bool.{Bool, true, false, not, ◌||◌, false≢true, and-eq-true_iff}
use mathlib.Core.List.{List, [], ◌∷◌}
use Prim.Native.Nat.{ℕ, ◌-◌, ◌*◌, ◌%◌, ◌≤◌}
use native.Mathlib.Omega.{arith}
use lib.Dec.{eqb, ltb}
use lib.ListN.{length}
use borrow.Author.Tests.{eqb-true, eqb-false, ltb-false, not-false}
use Rattle.grammar.specs.Refusal.{Checked, refused, accepted, checked}
use Rattle.grammar.specs.Rule.{within, unused}
use Rattle.grammar.specs.Sheet.{lines, variables_of, start_of, endmarker_of, number_at, grammar_of, open_line, not_lines, header_out, rule_within, condition, header_order, rule_order, sheet_order, sheet}
use Rattle.grammar.specs.Words.{words}
use Rattle.grammar.specs.Reading.{header_found, rules_found}
use Rattle.grammar.specs.Promise.{told, SheetPromise}
use Rattle.std.specs.Prelude.{Result}
use Rattle.grammar.specs.declared.refusal.Refusal.{Refusal}
use Rattle.grammar.specs.declared.sheet.Grammar.{Grammar as Header}
use Rattle.grammar.proofs.Refusals.{then, accepted_same, accepted_none, checked_then, checked_whatever}
use Rattle.grammar.proofs.Fitting.{within_bounds}

-- Lines that are whole.
pub record Whole (s : List ℕ) : Type 0 where
  pub some_lines : 1 ≤ lines s
  pub few_lines : lines s ≤ 257
  pub full_lines : length s ≡ 26 * lines s
  pub ended_lines : open_line s (lines s) ≡ false

pub lines_whole : (s : List ℕ) → not_lines s ≡ false → Whole s
unfolding not_lines
lines_whole s e = go (eqb (length s) 0) (eqb (length s % 26) 0) (ltb 257 (lines s)) (open_line s (lines s)) refl refl refl refl e
  where
    go : (a b c d : Bool) → eqb (length s) 0 ≡ a → eqb (length s % 26) 0 ≡ b → ltb 257 (lines s) ≡ c → open_line s (lines s) ≡ d
        → (a || not b || c || d) ≡ false → Whole s
    go true b c d p q r t f = absurd (false≢true (sym f))
    go false false c d p q r t f = absurd (false≢true (sym f))
    go false true true d p q r t f = absurd (false≢true (sym f))
    go false true false true p q r t f = absurd (false≢true (sym f))
    go false true false false p q r t f =
        let n = eqb-false (length s) 0 p in
        let m = eqb-true (length s % 26) 0 q in
        let k = ltb-false 257 (lines s) r in
        record { some_lines = omega arith; few_lines = k; full_lines = omega arith; ended_lines = t }

-- Line 1 that is accepted.
pub record HeaderRead (s : List ℕ) (v start endmarker : ℕ) : Type 0 where
  pub variables_are : v ≡ variables_of s
  pub start_is : start ≡ start_of s
  pub endmarker_is : endmarker ≡ endmarker_of s
  pub says : accepted (v ∷ start ∷ endmarker ∷ []) ≡ header_found s
  pub in_range : header_out s ≡ false

pub header_read : (s : List ℕ) (v start endmarker : ℕ) → accepted (v ∷ start ∷ endmarker ∷ []) ≡ header_found s → HeaderRead s v start endmarker
unfolding header_found condition
header_read s v start endmarker e =
    let same = accepted_same (condition s) header_order _ (v ∷ start ∷ endmarker ∷ []) (sym e) in
    let none = accepted_none (condition s) header_order _ (v ∷ start ∷ endmarker ∷ []) (sym e) in
    record { variables_are = cc; start_is = cc; endmarker_is = cc; says = e; in_range = none.1.0 }

-- V is 1 to 256, the start variable is one of them, and the last two fields are 0.
pub record InRange (s : List ℕ) : Type 0 where
  pub variables_in : (1 ≤ variables_of s) × (variables_of s ≤ 256)
  pub start_in : (1 ≤ start_of s) × (start_of s ≤ variables_of s)
  pub endmarker_in : endmarker_of s ≤ 255
  pub fourth_unused : number_at s 1 3 ≡ 0
  pub fifth_unused : number_at s 1 4 ≡ 0

pub header_in_range : (s : List ℕ) → header_out s ≡ false → InRange s
unfolding header_out
header_in_range s e =
    let t = (and-eq-true_iff _ (unused (number_at s 1 4))).0 (not-false _ e) in
    let u = (and-eq-true_iff _ (unused (number_at s 1 3))).0 t.0 in
    let w = (and-eq-true_iff _ (within 0 255 (endmarker_of s))).0 u.0 in
    let z = (and-eq-true_iff (within 1 256 (variables_of s)) (within 1 (variables_of s) (start_of s))).0 w.0 in
    record {
      variables_in = within_bounds 1 256 (variables_of s) z.0;
      start_in = within_bounds 1 (variables_of s) (start_of s) z.1;
      endmarker_in = (within_bounds 0 255 (endmarker_of s) w.1).1;
      fourth_unused = eqb-true (number_at s 1 3) 0 u.1;
      fifth_unused = eqb-true (number_at s 1 4) 0 t.1;
    }

-- ---- What the parts make of the whole.

pub sheet_not_lines : (s : List ℕ) → true ≡ not_lines s → sheet s ≡ refused 1 0
unfolding sheet sheet_order checked condition
sheet_not_lines s e = rw (← e)

-- Line 1, and then the rule lines.
sheet_parts : (s : List ℕ) → false ≡ not_lines s → sheet s ≡ then (header_found s) (then (rules_found s) (accepted (grammar_of s)))
unfolding sheet sheet_order checked condition header_found rules_found
sheet_parts s n =
    rw (← n)
    (checked_then (condition s) header_order (rule_order 2 (lines s - 1)) _ (grammar_of s)
    ∙ ap (then (header_found s)) (checked_whatever (condition s) (rule_order 2 (lines s - 1)) tt (grammar_of s)))

pub sheet_header_refused : (s : List ℕ) (x l : ℕ) → false ≡ not_lines s → refused x l ≡ header_found s → sheet s ≡ refused x l
sheet_header_refused s x l n e = sheet_parts s n ∙ rw (← e)

pub sheet_rules_refused : (s : List ℕ) {v start endmarker x l : ℕ} → false ≡ not_lines s → HeaderRead s v start endmarker → refused x l ≡ rules_found s
    → sheet s ≡ refused x l
sheet_rules_refused s n h e = sheet_parts s n ∙ rw (← h.says, ← e)

pub sheet_accepted : (s : List ℕ) {v start endmarker : ℕ} → false ≡ not_lines s → HeaderRead s v start endmarker → accepted tt ≡ rules_found s
    → sheet s ≡ accepted (grammar_of s)
sheet_accepted s n h e = sheet_parts s n ∙ rw (← h.says, ← e)

-- The three numbers of line 1 are the grammar's.
pub header_says_law : (s : List ℕ) {v start endmarker : ℕ} → HeaderRead s v start endmarker
    → ◌≡◌ {A = Checked (List ℕ)} (accepted (v ∷ start ∷ endmarker ∷ [])) (accepted (variables_of s ∷ start_of s ∷ endmarker_of s ∷ []))
header_says_law s h = rw (h.variables_are, h.start_is, h.endmarker_is)

-- ---- The reader's promise, by what the sheet is.

pub promise_refused : (s before after : List ℕ) (r : Result Header Refusal) (x l : ℕ) → sheet s ≡ refused x l → told r ≡ refused x l → after ≡ before → SheetPromise s before after r
promise_refused s before after r x l e t a = record { says = rw e t; stores = rw e a }

pub promise_accepted : (s before after : List ℕ) (r : Result Header Refusal) → sheet s ≡ accepted (grammar_of s) → told r ≡ accepted (variables_of s ∷ start_of s ∷ endmarker_of s ∷ [])
    → after ≡ words (rule_within s (lines s - 1)) → SheetPromise s before after r
promise_accepted s before after r e t a = record { says = rw e t; stores = rw e a }
