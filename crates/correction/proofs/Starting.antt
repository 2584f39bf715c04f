-- What a call starts from, where its table was kept, is right. Assumes nothing.
use mathlib.Core.List.{List}
use mathlib.Core.Path.{◌≡◌}
use Prim.Native.Nat.{ℕ, ◌+◌}
use lib.ListN.{length}
use Rattle.grammar.specs.Refusal.{accepted}
use Rattle.grammar.specs.Sheet.{Grammar, sheet}
use Rattle.schema.specs.Table.{contents}
use Rattle.schema.proofs.SheetClosed.{sheet_closed}
use Rattle.kept.specs.Differs.{DiffersAt}
use Rattle.kept.specs.Kept.{retained}
use Rattle.kept.proofs.RightCells.{RightCells, retain_right, kept_right}
use Rattle.correction.specs.Call.{KeptOf}

module _ (s input table : List ℕ) (g : Grammar) (reads : sheet s ≡ accepted g) where
  -- What a correction retains of a table of the old input, which differs at c at most,
  pub before_right : (old : List ℕ) (c : ℕ) → DiffersAt c old input → KeptOf old table g → RightCells g.rule g.variables input (retained (c + 1) (length input) table)
  before_right old c d k =
      let closed = sheet_closed s g reads in
      retain_right g.rule g.variables closed old input c d table (kept_right g.rule g.variables closed k)

  -- and all that a further question finds.
  pub of_right : KeptOf input table g → RightCells g.rule g.variables input (contents (length input) table)
  of_right k = kept_right g.rule g.variables (sheet_closed s g reads) k
