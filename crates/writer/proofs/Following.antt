-- The refusals of the writer, about any result that meets the call's contract. Assumes nothing.
use mathlib.Core.List.{List}
use mathlib.Core.Path.{◌≡◌, subst}
use Prim.Native.Nat.{ℕ}
use lib.ListN.{length}
use Rattle.std.specs.Prelude.{Result as Checkable}
use Rattle.grammar.specs.declared.refusal.Refusal.{Refusal}
use Rattle.grammar.specs.Refusal.{Checked, refused, accepted}
use Rattle.grammar.specs.Sheet.{Grammar}
use Rattle.schema.specs.Derivation.{◌at◌}
use Rattle.schema.specs.Handed.{handed, writer_of}
use Rattle.schema.proofs.Following.{Follows}
use Rattle.finish.specs.Reply.{Reply}
use Rattle.writer.specs.Writer.{RepliesWriting, WriterPromise, told, lines_in}
use Rattle.writer.specs.declared.Written.{Written}

-- The writer is refused as `handed` says, and then with table, work slice and output as they were.
pub write_follows : (s input : List ℕ) (A p : ℕ) (table table' work work' out out' : List ℕ) (r : Checkable Written Refusal) → WriterPromise s input A p table table' work work' out out' r
    → Follows Reply s (writer_of input (A at p) (length table) (length work) (length out)) (told r) ((table' ≡ table) × (work' ≡ work) × (out' ≡ out))
write_follows s input A p table table' work work' out out' r promise = record {
  refused_as = λ x l e. let k = given (refused x l) e in (k.0, (k.1, k.2, k.3));
  accepted_as = λ g e. let k = given (accepted g) e in (k.0, k.1);
}
  where
    given : (o : Checked Grammar) → handed s (writer_of input (A at p) (length table) (length work) (length out)) ≡ o
        → RepliesWriting o input (A at p) table table' work work' out out' (told r) (lines_in r)
    given o e = subst (λ (o : Checked Grammar). RepliesWriting o input (A at p) table table' work work' out out' (told r) (lines_in r)) e promise
