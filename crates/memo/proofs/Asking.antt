-- From a grammar in the array to what asking is handed, and back to what is said of the grammar. Assumes nothing.
use mathlib.Core.Path.{◌≡◌, sym, subst}
use mathlib.Core.Bool.{false, ◌||◌}
use mathlib.Core.List.{List}
use Prim.Native.Nat.{ℕ, ◌*◌, ◌≤◌}
use lib.Dec.{ltb}
use lib.ListN.{length}
use borrow.Author.Tests.{ltb-false}
use Rattle.grammar.specs.Refusal.{Checked, accepted}
use Rattle.grammar.specs.Rule.{Rule}
use Rattle.grammar.specs.Sheet.{Grammar, sheet}
use Rattle.grammar.specs.Words.{rule_in}
use Rattle.grammar.proofs.Accepted.{grammar_in_range}
use Rattle.schema.specs.Derivation.{Pair}
use Rattle.schema.specs.Closed.{Closed}
use Rattle.schema.specs.Table.{Within, cells}
use Rattle.grammar.proofs.Fitting.{neither_true}
use Rattle.schema.proofs.SheetClosed.{sheet_closed}
use Rattle.finish.specs.Reply.{Reply}
use Rattle.memo.specs.Answer.{Says}
use Rattle.memo.specs.Ask.{AskReady}

module _ (s array : List ℕ) {v : ℕ} (g : Grammar) (accepts : sheet s ≡ accepted g) (variables_are : g.variables ≡ v) (rules_are : rule_in array ≡ g.rule) where
  pub few_variables : v ≤ 256
  few_variables = subst (λ (n : ℕ). n ≤ 256) variables_are (grammar_in_range s g accepts).1

  -- What asking is handed, once the slices are found long enough.
  pub ready : (input table work : List ℕ) (A p : ℕ) → length input ≤ 4096 → Within g.variables (length input) A p
      → (ltb (length table) (2 * cells v (length input)) || ltb (length work) (cells v (length input))) ≡ false → AskReady (rule_in array) input v A p table work
  ready input table work A p short w h =
      let z = neither_true (ltb (length table) (2 * cells v (length input))) (ltb (length work) (cells v (length input))) h in
      record {
        few = few_variables;
        short = short;
        closed = subst (λ (n : ℕ). Closed n (rule_in array)) variables_are (subst (Closed g.variables) (sym rules_are) (sheet_closed s g accepts));
        within = subst (λ (n : ℕ). Within n (length input) A p) variables_are w;
        room = ltb-false (length table) (2 * cells v (length input)) z.0;
        work_room = ltb-false (length work) (cells v (length input)) z.1;
      }

  -- What is said of the array's rules is said of the grammar's.
  pub says_of : (input : List ℕ) (x : Pair) (table table' work work' : List ℕ) (t : Checked Reply)
      → Says (rule_in array) v input x table table' work work' t → Says g.rule g.variables input x table table' work work' t
  says_of input x table table' work work' t a =
      subst (λ (n : ℕ). Says g.rule n input x table table' work work' t) (sym variables_are)
      (subst (λ (f : ℕ → Rule). Says f v input x table table' work work' t) rules_are a)
