-- Document 02, order 8, "Two societies on one page", of any results that meet the contracts of further question and question. Assumes nothing.
use mathlib.Core.List.{List}
use mathlib.Core.Logic.{◌⊎◌}
use mathlib.Core.Path.{◌≡◌, sym, ap, ap₂, subst}
use Prim.Native.Nat.{ℕ, ◌+◌}
use lib.ListN.{length}
use Rattle.grammar.specs.Refusal.{accepted}
use Rattle.grammar.specs.Sheet.{Grammar, sheet}
use Rattle.schema.specs.Closed.{Closed}
use Rattle.schema.specs.Derivation.{◌at◌}
use Rattle.schema.specs.Handed.{handed, question_of}
use Rattle.schema.specs.Reached.{Reached, Number}
use Rattle.schema.specs.Table.{contents}
use Rattle.schema.proofs.Handed.{handed_sheet}
use Rattle.schema.proofs.SheetClosed.{sheet_closed}
use Rattle.finish.specs.Reply.{Reply, count_of, told}
use Rattle.kept.specs.Kept.{Blank, KeptTable, blank}
use Rattle.kept.proofs.Either as either
use Rattle.correction.specs.Call.{KeptAnswers, KeptCall, KeptOf, Alike}
use Rattle.correction.specs.Shared.{Askable, InTurn, SharedTable}
use Rattle.correction.proofs.Answered.{answers_alike, count_new}
use Rattle.correction.proofs.PromisedFurther as further
use Rattle.correction.proofs.Starting.{of_right}

module _ {s input : List ℕ} {g : Grammar} {A p B q : ℕ} {table : List ℕ} (kept : KeptTable g.rule g.variables input table) (turn : InTurn s input g A p B q table) where
  -- ---- The first call,

  one_call : KeptCall g.rule g.variables input (A at p) (KeptOf input table g) (contents (length input) table) table turn.between turn.work₁ turn.work₁' (told turn.one)
  one_call = further.kept_call s input A p table turn.work₁ turn.between turn.work₁' turn.one turn.asks_one g turn.askable_one kept

  one_answers : KeptAnswers g.rule g.variables input (A at p) (contents (length input) table) table turn.between one_call.replies
  one_answers = one_call.from_kept kept

  -- ---- and the second over what it leaves.

  between_kept : KeptTable g.rule g.variables input turn.between
  between_kept = further.kept_again s input A p table turn.work₁ turn.between turn.work₁' turn.one turn.asks_one g turn.askable_one kept

  askable_then : Askable s input g B q turn.between turn.work₂
  askable_then = subst (λ (n : ℕ). handed s (question_of input (B at q) n (length turn.work₂)) ≡ accepted g) (sym one_call.size) turn.askable_other

  other_call : KeptCall g.rule g.variables input (B at q) (KeptOf input turn.between g) (contents (length input) turn.between) turn.between turn.after turn.work₂
      turn.work₂' (told turn.other)
  other_call = further.kept_call s input B q turn.between turn.work₂ turn.after turn.work₂' turn.other turn.asks_other g askable_then between_kept

  other_answers : KeptAnswers g.rule g.variables input (B at q) (contents (length input) turn.between) turn.between turn.after other_call.replies
  other_answers = other_call.from_kept between_kept

  turn_reads : sheet s ≡ accepted g
  turn_reads = handed_sheet s (question_of input (A at p) (length table) (length turn.work₁)) g turn.askable_one

  turn_closed : Closed g.variables g.rule
  turn_closed = sheet_closed s g turn_reads

either_order : (s input : List ℕ) (g : Grammar) (A p B q : ℕ) (table : List ℕ) → KeptTable g.rule g.variables input table
    → (turn : InTurn s input g A p B q table) (back : InTurn s input g B q A p table)
    → Alike turn.one back.other × Alike turn.other back.one × (turn.after ≡ back.after)
either_order s input g A p B q table kept turn back = (
  answers_alike (one_answers kept turn) (one_call kept turn).accepts (other_answers kept back) (other_call kept back).accepts,
  answers_alike (other_answers kept turn) (other_call kept turn).accepts (one_answers kept back) (one_call kept back).accepts,
  either.either_order g.rule g.variables input (turn_closed kept turn) (of_right s input table g (turn_reads kept turn) kept)
      (one_answers kept turn).leaves (other_answers kept turn).leaves (one_answers kept back).leaves (other_answers kept back).leaves,
)

counts_add : (s input : List ℕ) (g : Grammar) (A p B q : ℕ) (table : List ℕ) → Blank g.variables (length input) table
    → (turn : InTurn s input g A p B q table) (a b : Reply) → told turn.one ≡ accepted a → told turn.other ≡ accepted b
    → Number (λ z. Reached g.rule input (A at p) z ⊎ Reached g.rule input (B at q) z) (count_of a + count_of b)
counts_add s input g A p B q table empty turn a b e f =
    let kept : KeptTable g.rule g.variables input table = blank empty in
    let first = (one_call kept turn).accepts in
    let second = (other_call kept turn).accepts in
    let same : (one_call kept turn).replies ≡ a = cc in
    let same_too : (other_call kept turn).replies ≡ b = cc in
    subst (Number (λ z. Reached g.rule input (A at p) z ⊎ Reached g.rule input (B at q) z)) (ap₂ ◌+◌ (ap count_of same) (ap count_of same_too))
    (either.counts_add g.rule g.variables input (turn_closed kept turn)
    (further.within s input A p table turn.work₁ turn.between turn.work₁' turn.one turn.asks_one g turn.askable_one kept)
    (further.within s input B q turn.between turn.work₂ turn.after turn.work₂' turn.other turn.asks_other g (askable_then kept turn) (between_kept kept turn)) empty
    (one_answers kept turn).leaves (other_answers kept turn).leaves (count_new (one_answers kept turn)) (count_new (other_answers kept turn)))

-- Order 8 of any sheet and input.
pub shared_table : (s input : List ℕ) (g : Grammar) → SharedTable s input g
shared_table s input g = record {
  kept_accepted = λ A p table work kept e.
      further.kept_accepted s input A p table work g (handed_sheet s (question_of input (A at p) (length table) (length work)) g e) kept e;
  heard_alone = λ A p table table' work work' r kept e promise table₀ table₀' work₀ work₀' r₀ f promise₀.
      further.as_fresh s input A p table work table' work' r promise g e kept table₀ table₀' work₀ work₀' r₀ promise₀ f;
  either_order = either_order s input g;
  counts_add = counts_add s input g;
  kept_again = λ A p table table' work work' r kept e promise. further.kept_again s input A p table work table' work' r promise g e kept;
}
