-- What an admission gives its caller: the accepted grammar with its rules in the array, or the refusal. Assumes nothing.
use mathlib.Core.List.{List}
use mathlib.Core.Option.{some}
use mathlib.Core.Path.{◌≡◌, refl, sym, ap, ◌∙◌}
use Prim.Native.Nat.{ℕ, ◌≤◌}
use lib.ListN.{length}
use borrow.Author.Tests.{le-ltb}
use Rattle.std.specs.Prelude.{Result, Ok, Err}
use Rattle.grammar.specs.Numbers.{number_of, line_of}
use Rattle.grammar.specs.Promise.{told, line_one, stored}
use Rattle.grammar.specs.Refusal.{Checked, refused, accepted}
use Rattle.grammar.specs.Sheet.{Grammar, sheet}
use Rattle.grammar.specs.Words.{rule_in}
use Rattle.grammar.specs.declared.sheet.Grammar.{Grammar as Line}
use Rattle.grammar.specs.declared.refusal.Refusal.{Refusal}
use Rattle.grammar.proofs.Accepted.{grammar_in_range}
use Rattle.grammar.proofs.Fitting.{within_both}
use Rattle.grammar.proofs.Held.{rules_held}
use Rattle.grammar.proofs.Told.{told_refused, told_read}
use Rattle.rules.specs.Admission.{Admits, Admission}
use Rattle.schema.specs.Derivation.{◌at◌}
use Rattle.schema.specs.Handed.{Handed, asked, handed}
use Rattle.schema.specs.Table.{Within}
use Rattle.schema.proofs.Tested.{asked_by}
use Rattle.schema.proofs.Handed.{handed_sheet, handed_input, handed_pair}

-- The promise, from what the call comes to.
pub admits : (s : List ℕ) (h : Handed) (before after : List ℕ) (r : Result Line Refusal) {o : Checked Grammar} → after ≡ stored (sheet s) before → handed s h ≡ o
    → told r ≡ line_one o → Admits s h before after r
admits s h before after r e f t = record { says = t ∙ ap line_one (sym f); stores = e }

-- Of any call: the array holds the rules of the grammar that is accepted,
pub rules_admitted : (s : List ℕ) (h : Handed) (before after : List ℕ) (r : Result Line Refusal) → Admits s h before after r → (g : Grammar) → handed s h ≡ accepted g
    → rule_in after ≡ g.rule
rules_admitted s h before after r a g e =
    let q : sheet s ≡ accepted g = handed_sheet s h g e in
    ap rule_in (a.stores ∙ ap (λ (o : Checked Grammar). stored o before) q) ∙ rules_held s g q

-- The question is accepted, the array holds the rules, and what is asked is within bounds.
pub record Admitted (s input : List ℕ) (A p : ℕ) (after : List ℕ) (l : Line) : Type 0 where
  pub grammar : Grammar
  pub accepts : handed s (asked input (A at p)) ≡ accepted grammar
  pub variables_are : grammar.variables ≡ l.variables
  pub variables_few : grammar.variables ≤ 256
  pub rules_are : rule_in after ≡ grammar.rule
  pub pair_within : Within grammar.variables (length input) A p
  pub input_short : length input ≤ 4096

module _ (s input : List ℕ) (A p : ℕ) (before after : List ℕ) (r : Result Line Refusal) (a : Admission s input A p before after r) where
  -- An accepted question.
  pub admitted : (l : Line) → r ≡ Ok l → Admitted s input A p after l
  admitted l e =
      let t = told_read (handed s (asked input (A at p))) r l a.says e in
      let g = t.grammar in
      let q : sheet s ≡ accepted g = handed_sheet s (asked input (A at p)) g t.accepts in
      record {
        grammar = g;
        accepts = t.accepts;
        variables_are = t.variables_are;
        variables_few = (grammar_in_range s g q).1;
        rules_are = rules_admitted s (asked input (A at p)) before after r a g t.accepts;
        pair_within = handed_pair s (asked input (A at p)) g t.accepts (A at p) refl;
        input_short = handed_input s (asked input (A at p)) g t.accepts;
      }

  -- A refused one.
  pub not_admitted : (n : Refusal) → r ≡ Err n → handed s (asked input (A at p)) ≡ refused (number_of n) (line_of n)
  not_admitted n e = told_refused (handed s (asked input (A at p))) r n a.says e

-- Where a call about a pair is accepted, so is the question about it, which is handed no more than the pair.
pub question_accepted : (s : List ℕ) (h : Handed) (g : Grammar) (A p : ℕ) → handed s h ≡ accepted g → h.pair ≡ some (A at p)
    → handed s (asked h.input (A at p)) ≡ accepted g
question_accepted s h g A p e q =
    let w = handed_pair s h g e (A at p) q in
    asked_by s h.input g A p (handed_sheet s h g e) (le-ltb 4096 (length h.input) (handed_input s h g e))
    (within_both 1 g.variables A w.variable.0 w.variable.1) (le-ltb (length h.input) p w.position)
