-- The theorems of a call over a table that may hold anything, about any result: its refusals, and what follows where the table was kept. Assumes nothing.
use mathlib.Core.Bool.{Bool, true≢false}
use mathlib.Core.List.{List}
use mathlib.Core.Logic.{◌⊎◌, ◌≢◌, ◌↔◌}
use mathlib.Core.Path.{◌≡◌, refl, sym, ap, ◌∙◌, subst}
use Prim.Native.Nat.{ℕ, ◌≤◌}
use lib.ListN.{length}
use Rattle.std.specs.Prelude.{Result}
use Rattle.grammar.specs.Refusal.{Checked, refused, accepted}
use Rattle.grammar.specs.Rule.{Rule}
use Rattle.grammar.specs.Sheet.{Grammar}
use Rattle.schema.specs.Closed.{Closed}
use Rattle.schema.specs.Derivation.{Pair, ◌at◌, Outcome, Has}
use Rattle.schema.specs.Handed.{handed, question_of}
use Rattle.schema.specs.Reached.{Reached, Named, Number}
use Rattle.schema.specs.Table.{Within, cells, held}
use Rattle.schema.proofs.Cell.{PairWithin}
use Rattle.schema.proofs.Handed.{handed_pair}
use Rattle.schema.proofs.Laws.{has_one, named_one, number_one}
use Rattle.finish.specs.Reply.{Reply, outcome_of, named_of, count_of, told}
use Rattle.grammar.specs.declared.refusal.Refusal.{Refusal}
use Rattle.finish.specs.declared.Answer.{Answer}
use Rattle.memo.specs.Answer.{QuestionPromise}
use Rattle.memo.proofs.Promised.{question_answers}
use Rattle.memo.proofs.Result.{count_is, answer_is}
use Rattle.memo.proofs.TableOne.{table_one}
use Rattle.kept.specs.New.{New}
use Rattle.kept.proofs.Filled.{filled, new_most}
use Rattle.correction.specs.Call.{KeptAnswers, KeptCall, Replies, Alike}
use Rattle.correction.specs.Refusals.{Refuses, callable}
use Rattle.correction.proofs.Refusing.{call_refused}

-- ---- Refused or not. Its own refusals; when its table was kept; what the cells hold at its start.

module _ (own : Grammar → ℕ → ℕ → Bool) (order : List (ℕ × ℕ)) (Kept : Grammar → Type 0) (start : Pair → ℕ × ℕ) (s input : List ℕ) (x : Pair)
    (table table' work work' : List ℕ) (t : Checked Reply)
    (promise : Replies (callable s input x (length table) (length work) own order) input x Kept start table table' work work' t) where
  abbrev found : Checked Grammar
  found = callable s input x (length table) (length work) own order

  given : (o : Checked Grammar) → found ≡ o → Replies o input x Kept start table table' work work' t
  given o e = subst (λ (o : Checked Grammar). Replies o input x Kept start table table' work work' t) e promise

  refused_as : (y l : ℕ) → t ≡ refused y l → found ≡ refused y l
  refused_as y l e = by_sheet found refl
    where
      by_sheet : (o : Checked Grammar) → found ≡ o → found ≡ refused y l
      by_sheet (refused z m) f = let k = (given (refused z m) f).0 in cc
      by_sheet (accepted g) f = let k = (given (accepted g) f).accepts in absurd (true≢false (cc))

  -- Demand 1: refused with a number exactly under its condition,
  pub refused_exactly : (y l : ℕ) → (t ≡ refused y l) ↔ Refuses s input x (length table) (length work) own order y l
  refused_exactly y l =
      let k = call_refused s input x (length table) (length work) own order y l in
      (λ e. k.0 (refused_as y l e), λ h. (given (refused y l) (k.1 h)).0)

  -- and then both slices are as they were.
  pub then_unchanged : (y l : ℕ) → t ≡ refused y l → (table' ≡ table) × (work' ≡ work)
  then_unchanged y l e = let k = given (refused y l) (refused_as y l e) in (k.1, k.2)

  -- Where it is accepted it has a reply, from any table.
  pub called : (g : Grammar) → callable s input x (length table) (length work) own order ≡ accepted g
      → KeptCall g.rule g.variables input x (Kept g) start table table' work work' t
  called g e = given (accepted g) e

-- ---- One answer and one table.

module _ {rule : ℕ → Rule} {v : ℕ} {input : List ℕ} {x : Pair} where
  -- The same outcome and the same named pair, whatever the cells held;
  module _ {start start₁ : Pair → ℕ × ℕ} {table table₁ table' table₁' : List ℕ} {a b : Reply}
      (one : KeptAnswers rule v input x start table table' a) (other : KeptAnswers rule v input x start₁ table₁ table₁' b) where
    pub same_outcome : one.outcome ≡ other.outcome
    same_outcome = has_one rule input x one.outcome other.outcome one.has other.has

    pub same_named : one.named ≡ other.named
    same_named =
        named_one rule input x one.named other.named other.outcome (subst (λ (u : Outcome). Named rule input x u one.named) same_outcome one.names) other.names

  -- of the same cells, the same count and the same table too.
  module _ {start : Pair → ℕ × ℕ} {table table' table'' : List ℕ} {a b : Reply}
      (one : KeptAnswers rule v input x start table table' a) (other : KeptAnswers rule v input x start table table'' b) where
    pub one_answer : a ≡ b
    one_answer =
        let o = same_outcome one other in
        let z = same_named one other in
        let n : one.count ≡ other.count = number_one one.counts other.counts in
        let e = one.says in
        let f = other.says in
        cc

    pub one_table : table' ≡ table''
    one_table = table_one one.leaves other.leaves (one.leaves.later ∙ sym other.leaves.later) (one.leaves.size ∙ sym other.leaves.size)

-- ---- From a kept table.

module _ {rule : ℕ → Rule} {v : ℕ} {input : List ℕ} {x : Pair} {start : Pair → ℕ × ℕ} {table table' : List ℕ} {a : Reply} (k : KeptAnswers rule v input x start table table' a) where
  -- Demand 3's five answers: an outcome is answered exactly where the pair has it.
  pub outcome_exactly : (o : Outcome) → (outcome_of a ≡ o) ↔ Has rule input x o
  outcome_exactly o =
      let e : outcome_of a ≡ k.outcome = ap outcome_of k.says in
      (λ q. subst (Has rule input x) (sym e ∙ q) k.has, λ h. e ∙ has_one rule input x k.outcome o k.has h)

  -- "non-blank afterwards are the retained non-blank cells and those of the pairs reached"; "each holding its pair's outcome" is `right`.
  pub filled_exactly : (B q : ℕ) → Within v (length input) B q → (held (length input) table' (B at q) ≢ 0) ↔ (((start (B at q)).0 ≢ 0) ⊎ Reached rule input x (B at q))
  filled_exactly = filled rule input v k.leaves

  -- The count of the answer is of newly decided cells.
  pub count_new : Number (New rule input x start) (count_of a)
  count_new = subst (Number (New rule input x start)) (sym (ap count_of k.says)) k.counts

  -- No more cells are newly decided than there are.
  pub count_most : Closed v rule → PairWithin v (length input) x → count_of a ≤ cells v (length input)
  count_most closed w = new_most rule input v k.leaves closed w count_new

-- ---- Answers alike.

-- Over tables that were kept, whatever they held;
pub answers_alike : {rule : ℕ → Rule} {v : ℕ} {input : List ℕ} {x : Pair} {start start₁ : Pair → ℕ × ℕ} {table table₁ table' table₁' : List ℕ} {a b : Reply} {r t : Result Answer Refusal}
    → KeptAnswers rule v input x start table table' a → told r ≡ accepted a → KeptAnswers rule v input x start₁ table₁ table₁' b → told t ≡ accepted b → Alike r t
answers_alike {a = a} {b = b} one e other f = record {
  one = a;
  other = b;
  says = e;
  says_too = f;
  same = (
    ap outcome_of one.says ∙ same_outcome one other ∙ sym (ap outcome_of other.says),
    ap named_of one.says ∙ same_named one other ∙ sym (ap named_of other.says),
  );
}

-- and "the answer is the one a fresh table gives": of any question about the same, over any slices.
pub as_fresh : (s input : List ℕ) (A p : ℕ) (table table' work work' : List ℕ) (r : Result Answer Refusal) → QuestionPromise s input A p table table' work work' r
    → (g : Grammar) → handed s (question_of input (A at p) (length table) (length work)) ≡ accepted g
    → {start : Pair → ℕ × ℕ} {table₁ table₁' : List ℕ} {a : Reply} {t : Result Answer Refusal} → KeptAnswers g.rule g.variables input (A at p) start table₁ table₁' a
    → told t ≡ accepted a → Alike t r
as_fresh s input A p table table' work work' r promise g accepts {a = a} k e =
    let call = question_of input (A at p) (length table) (length work) in
    let q = question_answers s input A p table work g accepts table' work' r promise in
    let within = handed_pair s call g accepts (A at p) refl in
    let counted = count_is s call g accepts (A at p) within q.2 in
    let fresh = answer_is s call g accepts (A at p) within q.2 k.outcome k.named (count_of q.0) k.has k.names counted in
    record {
      one = a;
      other = q.0;
      says = e;
      says_too = q.1;
      same = (ap outcome_of k.says ∙ sym (ap outcome_of fresh), ap named_of k.says ∙ sym (ap named_of fresh));
    }
