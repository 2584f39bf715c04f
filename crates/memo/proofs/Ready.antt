-- What the admission of a call that is handed slices gives its caller: the refusal; or what asking is handed, and what is said of the array's rules said of
-- the grammar. Assumes nothing.
use mathlib.Core.List.{List}
use mathlib.Core.Option.{some}
use mathlib.Core.Path.{◌≡◌, sym, subst}
use Prim.Native.Nat.{ℕ, ◌≤◌}
use lib.ListN.{length}
use Rattle.std.specs.Prelude.{Result, Ok, Err}
use Rattle.grammar.specs.Numbers.{number_of, line_of}
use Rattle.grammar.specs.Refusal.{refused, accepted}
use Rattle.grammar.specs.Rule.{Rule}
use Rattle.grammar.specs.Sheet.{sheet}
use Rattle.grammar.specs.Words.{rule_in}
use Rattle.grammar.specs.declared.refusal.Refusal.{Refusal}
use Rattle.grammar.specs.declared.sheet.Grammar.{Grammar as Line}
use Rattle.grammar.proofs.Accepted.{grammar_in_range}
use Rattle.grammar.proofs.Told.{Reads, told_refused, told_read}
use Rattle.rules.specs.Admission.{Admits}
use Rattle.rules.proofs.Admitted.{rules_admitted}
use Rattle.schema.specs.Closed.{Closed}
use Rattle.schema.specs.Handed.{Handed, handed}
use Rattle.schema.specs.Table.{Within}
use Rattle.schema.proofs.Handed.{handed_sheet, handed_input, handed_slices}
use Rattle.schema.proofs.SheetClosed.{sheet_closed}
use Rattle.memo.specs.Ask.{AskReady}

module _ (s : List ℕ) (h : Handed) {before after : List ℕ} {r : Result Line Refusal} (admission : Admits s h before after r) where
  -- The refusal,
  pub not_admitted : {n : Refusal} → r ≡ Err n → handed s h ≡ refused (number_of n) (line_of n)
  not_admitted {n} e = told_refused (handed s h) r n admission.says e

  module _ {l : Line} (e : r ≡ Ok l) where
    -- or the accepted grammar,
    pub admitted : Reads (handed s h) l
    admitted = told_read (handed s h) r l admission.says e

    reads : sheet s ≡ accepted admitted.grammar
    reads = handed_sheet s h admitted.grammar admitted.accepts

    rules_are : rule_in after ≡ admitted.grammar.rule
    rules_are = rules_admitted s h before after r admission admitted.grammar admitted.accepts

    -- of 256 variables at most, on a short input,
    pub few_short : (l.variables ≤ 256) × (length h.input ≤ 4096)
    few_short = (
      subst (λ (n : ℕ). n ≤ 256) admitted.variables_are (grammar_in_range s admitted.grammar reads).1,
      handed_input s h admitted.grammar admitted.accepts,
    )

    -- which may be asked over the slices,
    pub ask_ready : (table work : List ℕ) (A p : ℕ) → h.slices ≡ some (length table, length work) → Within admitted.grammar.variables (length h.input) A p
        → AskReady (rule_in after) h.input l.variables A p table work
    ask_ready table work A p slices w =
        let g = admitted.grammar in
        let room = handed_slices s h g admitted.accepts (length table) (length work) slices in
        let closed : Closed g.variables (rule_in after) = subst (Closed g.variables) (sym rules_are) (sheet_closed s g reads) in
        rw (← admitted.variables_are) (record {
          few = (grammar_in_range s g reads).1;
          short = handed_input s h g admitted.accepts;
          closed = closed;
          within = w;
          room = room.0;
          work_room = room.1;
        })

    -- and of which holds what holds of the array's rules and of line 1.
    pub of_grammar : (P : (ℕ → Rule) → ℕ → ℕ → Type 0) → P (rule_in after) l.variables l.start
        → P admitted.grammar.rule admitted.grammar.variables admitted.grammar.start
    of_grammar P h =
        subst (λ (A : ℕ). P admitted.grammar.rule admitted.grammar.variables A) (sym admitted.start_is)
        (subst (λ (n : ℕ). P admitted.grammar.rule n l.start) (sym admitted.variables_are) (subst (λ (f : ℕ → Rule). P f l.variables l.start) rules_are h))
