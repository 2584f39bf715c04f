-- From the admission to the promise. Assumes nothing.
use mathlib.Core.List.{List}
use mathlib.Core.Option.{Option}
use mathlib.Core.Path.{◌≡◌, refl}
use Prim.Native.Nat.{ℕ}
use lib.ListN.{length}
use Rattle.std.specs.Prelude.{Result, Ok, Err}
use Rattle.grammar.specs.Numbers.{number_of, line_of}
use Rattle.grammar.specs.Refusal.{Checked, refused}
use Rattle.grammar.specs.Words.{rule_in}
use Rattle.grammar.specs.declared.sheet.Grammar.{Grammar as Line}
use Rattle.grammar.specs.declared.refusal.Refusal.{Refusal}
use Rattle.schema.specs.Derivation.{◌at◌}
use Rattle.schema.specs.Handed.{handed, verdict_of}
use Rattle.rules.specs.Admission.{Admits}
use Rattle.memo.proofs.Ready.{not_admitted, admitted, of_grammar}
use Rattle.opening.specs.Opening.{Opens, Finds}

module _ (s input table work : List ℕ) {before after : List ℕ} {r : Result Line Refusal}
    (admission : Admits s (verdict_of input (length table) (length work)) before after r) where
  -- A refusal,
  pub finds_refused : {n : Refusal} {t : Checked (Option ℕ)} → r ≡ Err n → t ≡ refused (number_of n) (line_of n)
      → Finds (handed s (verdict_of input (length table) (length work))) input table table work work t
  finds_refused e f = rw (not_admitted s (verdict_of input (length table) (length work)) admission e) (f, refl, refl)

  -- or an answer.
  pub finds : {l : Line} → r ≡ Ok l → {table' work' : List ℕ} {t : Checked (Option ℕ)}
      → Opens (rule_in after) l.variables input (l.start at 0) table table' work work' t
      → Finds (handed s (verdict_of input (length table) (length work))) input table table' work work' t
  finds e {table'} {work'} {t} opens =
      rw (admitted s (verdict_of input (length table) (length work)) admission e).accepts
      (of_grammar s (verdict_of input (length table) (length work)) admission e (λ f v A. Opens f v input (A at 0) table table' work work' t) opens)
