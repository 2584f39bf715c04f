-- What a question leaves in its table tells whether its outcome comes again: the cell of a reached pair holds its reach. Assumes nothing.
use mathlib.Core.Bool.{true≢false}
use mathlib.Core.List.{List}
use mathlib.Core.Logic.{◌↔◌}
use mathlib.Core.Path.{◌≡◌, refl, sym, ap, ap₂, ◌∙◌, subst}
use Prim.Native.Nat.{ℕ, ◌≤◌}
use native.Mathlib.Decide.{ℕ_discrete}
use native.Mathlib.Omega.{arith}
use lib.ListN.{length}
use Rattle.std.specs.Prelude.{Result as Results}
use Rattle.grammar.specs.Refusal.{accepted}
use Rattle.grammar.specs.Rule.{Rule}
use Rattle.grammar.specs.Sheet.{Grammar}
use Rattle.grammar.specs.declared.refusal.Refusal.{Refusal}
use Rattle.schema.specs.Closed.{Closed}
use Rattle.schema.specs.Derivation.{Pair, ◌at◌, Result, calls, act, second, Outcome, result, stopped, loop, Has}
use Rattle.schema.specs.Examined.{Examines, leaf, node, Reaches}
use Rattle.schema.specs.Handed.{Handed, handed, question_of}
use Rattle.schema.specs.Reached.{Reached, itself, first_of, of_second}
use Rattle.schema.specs.Table.{Within, reach, Table}
use Rattle.schema.proofs.Answer.{reached_cell}
use Rattle.schema.proofs.Cell.{PairWithin}
use Rattle.schema.proofs.Examined.{examines_derives, derives_examines, examines_one}
use Rattle.schema.proofs.Handed.{handed_sheet, handed_pair}
use Rattle.schema.proofs.Laws.{has_one, derives_one}
use Rattle.schema.proofs.Parts.{calls_one}
use Rattle.schema.proofs.SheetClosed.{sheet_closed}
use Rattle.finish.specs.Reply.{Reply, outcome_of, told}
use Rattle.finish.specs.declared.Answer.{Answer}
use Rattle.memo.specs.Answer.{Answers, QuestionPromise}
use Rattle.appended.specs.Appended.{NonePastEnd, Lasting}
use Rattle.appended.specs.ByTable.{NoCellPast, ByTable}
use Rattle.appended.proofs.Answered.{replied, accepted_one, answered_again}

module _ (rule : ℕ → Rule) (s : List ℕ) where
  -- What a pair with a result calls has a result too, with no greater reach.
  called_examined : {A B C D p m : ℕ} {r : Result} → Examines rule s (A at p) r m → act rule s (A at p) ≡ calls B C D
      → (t : Result) × (i : ℕ) × (j : ℕ) × Examines rule s (B at p) t i × Examines rule s (second C D p t) r j × (i ≤ m) × (j ≤ m)
  called_examined (leaf e) q = absurd (true≢false (cc))
  called_examined {p = p} (node {m = i} {n = j} {r = r} {t = t} e f g) q =
      let k = calls_one e q in (
        t,
        i,
        j,
        subst (λ (b : ℕ). Examines rule s (b at p) t i) k.0 f,
        subst (λ (y : Pair). Examines rule s y r j) (ap₂ (λ (c d : ℕ). second c d p t) k.1 k.2) g,
        omega arith,
        omega arith,
      )

  -- So has whatever it reaches.
  reached_examined : {x y : Pair} {r : Result} {m : ℕ} → Examines rule s x r m → Reached rule s x y → (t : Result) × (j : ℕ) × Examines rule s y t j × (j ≤ m)
  reached_examined {r = r} {m = m} e itself = (r, m, e, omega arith)
  reached_examined e (first_of h q) =
      let a = reached_examined e h in
      let c = called_examined a.2 q in
      let l = a.3 in
      let k = c.5 in
      (c.0, c.1, c.3, omega arith)
  reached_examined e (of_second {C = C} {D = D} {p = p} h q d) =
      let a = reached_examined e h in
      let c = called_examined a.2 q in
      let same = (derives_one rule s (examines_derives rule s c.3).2 d).0 in
      let l = a.3 in
      let k = c.6 in
      (a.0, c.2, subst (λ (t : Result). Examines rule s (second C D p t) a.0 c.2) same c.4, omega arith)

  -- A reach within the input is enough.
  lasting_within : (x : Pair) (o : Outcome) → Lasting rule s x o → NonePastEnd rule s x
  lasting_within x (result r) l y t j h f =
      let u = reached_examined l.1 h in
      let same = examines_one rule s f u.2 in
      let a = l.2 in
      let b = u.3 in
      omega arith
  lasting_within x (stopped w) l y t j h f = l y t j h f
  lasting_within x loop l y t j h f = l y t j h f

  within_lasting : (x : Pair) (o : Outcome) → Has rule s x o → NonePastEnd rule s x → Lasting rule s x o
  within_lasting x (result r) h w = let e = derives_examines rule s h.2 in (e.0, e.1, w x r e.0 itself e.1)
  within_lasting x (stopped t) h w = w
  within_lasting x loop h w = w

  -- ---- By a table that a question about x left.

  module _ {v : ℕ} {x : Pair} {start : Pair → ℕ × ℕ} {O T : List ℕ} (table : Table rule s v x start O T) where
    -- The cell of a finished pair holds its reach,
    reach_held : (y : Pair) (r : Result) (m : ℕ) → Reached rule s x y → Examines rule s y r m → reach (length s) T y ≡ m
    reach_held y r m h e =
        let k = table.holds y h in
        let same = has_one rule s y k.0 (result r) k.1 (examines_derives rule s e) in
        examines_one rule s (subst (λ (o : Outcome). Reaches rule s y o (reach (length s) T y)) same k.3) e

    -- and that of another reached pair 0.
    held_within : NonePastEnd rule s x → (y : Pair) → Reached rule s x y → reach (length s) T y ≤ length s
    held_within w y h = let k = table.holds y h in by_outcome k.0 k.3
      where
        by_outcome : (o : Outcome) → Reaches rule s y o (reach (length s) T y) → reach (length s) T y ≤ length s
        by_outcome (result r) e = w y r (reach (length s) T y) h e
        by_outcome (stopped t) e = omega arith
        by_outcome loop e = omega arith

    -- A cell that is not blank is that of a reached pair.
    cells_within : ((y : Pair) → (start y).1 ≡ 0) → NonePastEnd rule s x → NoCellPast v (length s) T
    cells_within blank w A p u = elim (ℕ_discrete (reach (length s) T (A at p)) (start (A at p)).1) [
      | yes e ↦ let z = blank (A at p) in omega arith
      | no d ↦ let k = held_within w (A at p) (table.others_reach A p u d) in omega arith
    ]

    -- Each finished pair that is reached has a cell.
    within_cells : Closed v rule → PairWithin v (length s) x → NoCellPast v (length s) T → NonePastEnd rule s x
    within_cells closed u w y r m h e =
        subst (λ (k : ℕ). k ≤ length s) (reach_held y r m h e) (at_pair y (reached_cell rule s v closed x u h).0)
      where
        at_pair : (z : Pair) → PairWithin v (length s) z → reach (length s) T z ≤ length s
        at_pair (A at p) l = w A p l

    -- The pair's own cell tells of its result.
    own_cell : (r : Result) → Has rule s x (result r) → Lasting rule s x (result r) ↔ (reach (length s) T x ≤ length s)
    own_cell r h = (
      λ l. subst (λ (k : ℕ). k ≤ length s) (sym (reach_held x r l.0 itself l.1)) l.2,
      λ l. let e = derives_examines rule s h.2 in (e.0, e.1, subst (λ (k : ℕ). k ≤ length s) (reach_held x r e.0 itself e.1) l),
    )

-- ---- Of any result that meets the contract.

module _ (s input : List ℕ) (A p : ℕ) (table table' work work' : List ℕ) (r : Results Answer Refusal) (promise : QuestionPromise s input A p table table' work work' r)
    (g : Grammar) (accepts : handed s (question_of input (A at p) (length table) (length work)) ≡ accepted g) (a : Reply) (says : told r ≡ accepted a) where
  abbrev asked : Handed
  asked = question_of input (A at p) (length table) (length work)

  answers : Answers g.rule g.variables input (A at p) table table' work work' a
  answers =
      let k = replied s input A p table table' work work' r promise a says in
      subst (λ (h : Grammar). Answers h.rule h.variables input (A at p) table table' work work' a) (accepted_one k.accepts accepts) k.answers

  abbrev outcome : Outcome
  outcome = answers.outcome

  within : Within g.variables (length input) A p
  within = handed_pair s asked g accepts (A at p) refl

  closed : Closed g.variables g.rule
  closed = sheet_closed s g (handed_sheet s asked g accepts)

  is_outcome : outcome_of a ≡ answers.outcome
  is_outcome = ap outcome_of answers.says

  by_cells : Lasting g.rule input (A at p) (outcome_of a) ↔ NoCellPast g.variables (length input) table'
  by_cells = subst (λ (o : Outcome). Lasting g.rule input (A at p) o ↔ NoCellPast g.variables (length input) table') (sym is_outcome) (
    λ l. cells_within g.rule input answers.leaves (λ y. refl) (lasting_within g.rule input (A at p) outcome l),
    λ w. within_lasting g.rule input (A at p) outcome answers.has (within_cells g.rule input answers.leaves closed within w),
  )

  -- Order 11 over results, by the table.
  pub by_table : ByTable s input A p g a table'
  by_table = record {
    by_cells = by_cells;
    by_own_cell = λ t e.
        let f = sym is_outcome ∙ e in
        subst (λ (o : Outcome). Lasting g.rule input (A at p) o ↔ (reach (length input) table' (A at p) ≤ length input)) (sym e)
        (own_cell g.rule input answers.leaves t (subst (Has g.rule input (A at p)) f answers.has));
    repeats = λ w added table₂ table₂' work₂ work₂' r₂ two b f.
        (answered_again s input added A p).question_repeats table table' work work' r promise table₂ table₂' work₂ work₂' r₂ two g accepts a b says f (by_cells.1 w);
  }
