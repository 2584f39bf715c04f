-- The grammar of a sheet is closed: its start variable and the operands of its rules of kind 4 are among the variables 1 to V. Assumes nothing.
use mathlib.Core.List.{List}
use mathlib.Core.Path.{◌≡◌, subst}
use Prim.Native.Nat.{ℕ}
use native.Mathlib.Omega.{arith}
use Rattle.grammar.specs.Refusal.{accepted}
use Rattle.grammar.specs.Rule.{Fits}
use Rattle.grammar.specs.Sheet.{Grammar, sheet}
use Rattle.grammar.proofs.Accepted.{grammar_fits, grammar_in_range}
use Rattle.schema.specs.Closed.{Closed}
use Rattle.schema.specs.Table.{Within}

-- The grammar of an accepted sheet calls its own variables.
pub sheet_closed : (s : List ℕ) (g : Grammar) → sheet s ≡ accepted g → Closed g.variables g.rule
sheet_closed s g e A B C D q =
    let f = subst (Fits g.variables) q (grammar_fits s g e A) in
    ((f.0, f.1), (f.2, f.3), (f.4, f.5))

-- The start variable at 0 is a pair.
pub start_within : {n : ℕ} (s : List ℕ) (g : Grammar) → sheet s ≡ accepted g → Within g.variables n g.start 0
start_within s g e = let b = grammar_in_range s g e in record { variable = (b.2, b.3); position = omega arith }
