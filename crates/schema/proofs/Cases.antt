-- Document 01, "Marked entries": every case of the list holds. What a case gives is computed, by the walk, the evaluator and the machine, and carried
-- over to the relations. Assumes nothing.
use mathlib.Core.Bool.{Bool, true, false, true≢false}
use mathlib.Core.List.Memᴰ
use mathlib.Core.List.{List, [], ◌∷◌, map, Memᴰ}
use mathlib.Core.Logic.{inl, inr}
use mathlib.Core.Option.{Option, none, some}
use mathlib.Core.Path.{◌≡◌, refl, sym, ap, ◌∙◌, subst}
use native.Mathlib.Decide.{ℕ_discrete}
use Prim.Native.Nat.{ℕ}
use lib.ListN.{length}
use Rattle.calls.proofs.Count.{sum}
use Rattle.calls.proofs.Numbered.{numbered}
use Rattle.calls.proofs.Table.{put, fresh, count_fresh}
use Rattle.calls.proofs.Walk.{Walked, walk, ask}
use Rattle.columns.specs.Column.{leading, column, row, digits_after, number, field, fields}
use Rattle.classes.specs.Class.{class_in, class_of}
use Rattle.grammar.specs.Refusal.{Checked, refused, accepted, checked}
use Rattle.grammar.specs.Rule.{Rule, rule_of}
use Rattle.grammar.specs.Sheet.{Grammar, grammar_of, line_at, rule_within, open_line, not_lines, header_out, variable_out, condition, rule_order, sheet_order}
use Rattle.grammar.proofs.Refusals.{accepted_same}
use Rattle.grammar.specs.Printing.{text}
use Rattle.schema.specs.Cases.{Case, cases, first_pair, Derived, judged, CaseHolds}
use Rattle.schema.specs.Derivation.{Pair, Result, Stop, Outcome, result, act_of, Has}
use Rattle.schema.specs.Handed.{Handed, call_condition, handed_condition, handed_order, handed, question_of, verdict_of}
use Rattle.schema.specs.Machine.{Ran, step, run, machine}
use Rattle.schema.specs.Reached.{Reached, Named, Number}
use Rattle.schema.proofs.Handed.{handed_sheet, handed_pair}
use Rattle.schema.proofs.Eval.{Value, derived, halted, unknown, Evaluates, eval, eval_sound}
use Rattle.schema.proofs.Laws.{has_one}
use Rattle.schema.proofs.SheetClosed.{sheet_closed}
use Rattle.schema.proofs.System.{gts}
use Rattle.schema.proofs.Walk.{walked, outcome_in, name_in, count_in, walk_has, walk_named, walk_number}

-- What is computed of a case: that it is accepted, the outcome, the named pair, the count, steps and height, the run, the start variable, the verdict.
data Found : Type 0 where
  found : Bool → Outcome → Pair → ℕ → Option (ℕ × ℕ) → Ran → ℕ → Checked ℕ → Found

abbrev is_accepted : {A : Type 0} → Checked A → Bool
is_accepted (refused number line) = false
is_accepted (accepted g) = true

abbrev steps_of : Value → Option (ℕ × ℕ)
steps_of (derived r k h) = some (k, h)
steps_of (halted w) = none
steps_of unknown = none

unfoldable found_by : Case → List ℕ → Grammar → Walked Result Stop → Found
found_by c s g w =
    found (is_accepted (handed s (question_of c.input first_pair 2048 1024))) (outcome_in w) (name_in (length c.input) w) (count_in g.variables (length c.input) w)
    (steps_of (eval g.rule c.input 20 first_pair)) (machine g.rule c.input first_pair c.budget c.room) g.start
    (judged (length c.input) c.outcome (handed s (verdict_of c.input 2048 1024)))

unfoldable computed : Case → Found
computed c =
    let s = text c.lines in
    let g = grammar_of s in
    found_by c s g (walked g.rule c.input g.variables first_pair)

unfoldable given : Case → Found
given c = found true c.outcome c.named c.count c.steps c.run 1 c.verdict

-- What is computed is what is given.
computed_given : map computed cases ≡ map given cases
unfolding found_by computed given cases text leading column row digits_after number field fields line_at open_line not_lines header_out variable_out
    condition rule_order sheet_order rule_of rule_within call_condition handed_condition handed_order checked handed class_in class_of act_of step run machine eval gts numbered sum
    put fresh count_fresh ℕ_discrete walk ask walked
computed_given = refl

-- ---- What follows for one case.

handed_is : (s : List ℕ) (h : Handed) → is_accepted (handed s h) ≡ true → handed s h ≡ accepted (grammar_of s)
unfolding handed
handed_is s h e = go (handed s h) refl
  where
    go : (o : Checked Grammar) → handed s h ≡ o → handed s h ≡ accepted (grammar_of s)
    go (refused x l) p = let q = ap is_accepted p in absurd (true≢false (cc))
    go (accepted g) p = p ∙ ap accepted (sym (accepted_same (handed_condition s h) (handed_order s) (grammar_of s) g p))

-- A value's steps and height are those of the outcome's derivation.
derived_by : (rule : ℕ → Rule) (s : List ℕ) (x : Pair) (o : Outcome) (v : Value) → Has rule s x o → Evaluates rule s x v → Derived rule s x o (steps_of v)
derived_by rule s x o (derived r k h) m d = subst (λ (p : Outcome). Derived rule s x p (some (k, h))) (sym (has_one rule s x o (result r) m (k, h, d))) d
derived_by rule s x o (halted w) m d = tt
derived_by rule s x o unknown m d = tt

case_holds : (c : Case) → computed c ≡ given c → CaseHolds c
unfolding found_by computed given
case_holds c e =
    let s = text c.lines in
    let g = grammar_of s in
    let r : handed s (question_of c.input first_pair 2048 1024) ≡ accepted g = handed_is s (question_of c.input first_pair 2048 1024) (cc) in
    let closed = sheet_closed s g (handed_sheet s (question_of c.input first_pair 2048 1024) g r) in
    let within = handed_pair s (question_of c.input first_pair 2048 1024) g r first_pair refl in
    let rule = g.rule in
    let input = c.input in
    let v = g.variables in
    let w = walked rule input v first_pair in
    let o : outcome_in w ≡ c.outcome = cc in
    let z : name_in (length input) w ≡ c.named = cc in
    let k : count_in v (length input) w ≡ c.count = cc in
    let l : steps_of (eval rule input 20 first_pair) ≡ c.steps = cc in
    let has = subst (Has rule input first_pair) o (walk_has rule input v closed first_pair within) in
    let named = walk_named rule input v closed first_pair within in
    let steps = derived_by rule input first_pair c.outcome (eval rule input 20 first_pair) has (eval_sound rule input 20 first_pair) in
    record {
      grammar = g;
      reads = r;
      has = has;
      names = subst (Named rule input first_pair c.outcome) z (subst (λ (p : Outcome). Named rule input first_pair p (name_in (length input) w)) o named);
      counts = subst (Number (Reached rule input first_pair)) k (walk_number rule input v closed first_pair within);
      derived = subst (Derived rule input first_pair c.outcome) l steps;
      runs = cc;
      starts = cc;
      judges = cc;
    }

map_same : {A B : Type 0} (f g : A → B) (l : List A) → map f l ≡ map g l → (a : A) → Memᴰ a l → f a ≡ g a
map_same f g [] e a m = absurd (Memᴰ.not-nil m)
map_same f g (b ∷ l) e a m = elim (Memᴰ.cases_cons m) [
  | inl q ↦ let h : f b ≡ g b = cc in ap f q ∙ h ∙ ap g (sym q)
  | inr k ↦ map_same f g l (cc) a k
]

-- Every case of the list holds.
pub cases_hold : (c : Case) → Memᴰ c cases → CaseHolds c
cases_hold c m = case_holds c (map_same computed given cases computed_given c m)
