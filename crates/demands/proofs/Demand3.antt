-- Demand 3, whole: of any results that meet the contracts of the question, the machine's run and the checker. Assumes nothing.
use mathlib.Core.List.{List, [], ◌∷◌, Memᴰ}
use mathlib.Core.Logic.{◌⊎◌, ◌↔◌}
use mathlib.Core.Path.{◌≡◌, refl, ap, ◌∙◌, subst}
use Prim.Native.Nat.{ℕ, ◌*◌, ◌≤◌}
use lib.ListN.{length}
use Rattle.std.specs.Prelude.{Result as Results}
use Rattle.grammar.specs.Printing.{text}
use Rattle.grammar.specs.Refusal.{accepted}
use Rattle.grammar.specs.Sheet.{Grammar, grammar_of}
use Rattle.grammar.specs.declared.refusal.Refusal.{Refusal}
use Rattle.schema.specs.Cases.{Case, cases, sheet_h, header}
use Rattle.schema.specs.Derivation.{Pair, ◌at◌, success, Outcome, result, loop, Has}
use Rattle.schema.specs.Handed.{handed, asked, question_of}
use Rattle.schema.specs.Machine.{spent, no_frame, ran}
use Rattle.schema.specs.Reached.{Reached, Number}
use Rattle.schema.specs.Table.{cells, Holds}
use Rattle.rules.proofs.Admitted.{question_accepted}
use Rattle.finish.specs.Reply.{Reply, reply, outcome_of, count_of, told}
use Rattle.memo.specs.Answer.{QuestionPromise}
use Rattle.finish.specs.declared.Answer.{Answer}
use Rattle.memo.proofs.Promised.{question_answers, question_reply, case_accepted, case_answered, cells_a, cells_g}
use Rattle.backtrack.specs.Run as run
use Rattle.backtrack.specs.declared.Ending.{Ending}
use Rattle.backtrack.proofs.Call as machine
use Rattle.backtrack.proofs.Named.{named}
use Rattle.demands.specs.Demands.{claimed_outcome, Demand3, Demand3Question}
use Rattle.demands.proofs.Demand2.{machine_derived, claim_derived}

-- ---- Demand 3 of any call: where the answers are exact, machine and checker agree.

module _ (s input : List ℕ) (x : Pair) (g : Grammar) (plain : handed s (asked input x) ≡ accepted g) {Counted : Pair → Type 0} {table : List ℕ} {a : Reply}
    (exactly : (o : Outcome) → (outcome_of a ≡ o) ↔ Has g.rule input x o) (holds : (y : Pair) → Reached g.rule input x y → Holds g.rule input table y)
    (counts : Number Counted (count_of a)) (most : count_of a ≤ cells g.variables (length input)) where
  pub demanded : Demand3 s input x g Counted table a
  demanded = record {
    outcome_exactly = exactly;
    machine_agrees = λ budget room o moves e. (exactly o).1 (named g.rule input x budget room moves o e);
    run_agrees = λ frames frames' budget r runs o moves e. (exactly o).1 (machine_derived s input x frames frames' budget r runs g plain o moves e);
    checker_agrees = λ reading r checks c e. (exactly (claimed_outcome c)).1 (claim_derived s input x reading r checks g plain c e);
    cells_hold = holds;
    counts = counts;
    count_most = most;
  }

-- ---- Of a question.

module _ (s input : List ℕ) (A p : ℕ) (table work table' work' : List ℕ) (answer : Results Answer Refusal) (promise : QuestionPromise s input A p table table' work work' answer)
    (g : Grammar) (accepts : handed s (question_of input (A at p) (length table) (length work)) ≡ accepted g) where
  plain : handed s (asked input (A at p)) ≡ accepted g
  plain = question_accepted s (question_of input (A at p) (length table) (length work)) g A p accepts refl

  -- "Take any question (sheet, entry, variable, place) that the table engine does not refuse, whatever its table and work slice held before."
  pub demand_3 : (a : Reply) × (told answer ≡ accepted a) × Demand3Question s input (A at p) g table' a
  demand_3 =
      let q = question_reply s input A p table work g accepts table' work' answer promise in
      let exactly = q.4 in
      let said = question_answers s input A p table work g accepts table' work' answer promise in
      let answers = said.2 in
      let told_is = q.1 in
      let said_is = said.1 in
      let same : q.0 ≡ said.0 = cc in (
        q.0,
        q.1,
        record {
          demand = demanded s input (A at p) g plain (λ o. ((exactly o).1, (exactly o).0)) answers.leaves.holds q.2 q.3;
          cells_reached = answers.leaves.others;
          count_decided = ap count_of (same ∙ answers.says);
        },
      )

  -- It holds of any reply that the answer says.
  pub demand_3_of : (a : Reply) → told answer ≡ accepted a → Demand3Question s input (A at p) g table' a
  demand_3_of a e =
      let d = demand_3 in
      let f = d.1 in
      let same : d.0 ≡ a = cc in
      subst (Demand3Question s input (A at p) g table') same d.2

  -- Where the engine answers loop, the machine says spent or no frame.
  pub machine_on_loop : (a : Reply) → told answer ≡ accepted a → outcome_of a ≡ loop
      → (frames frames' : List ℕ) (budget : ℕ) (r : Results Ending Refusal) → run.Runs s input (A at p) frames frames' budget r
      → (moves : ℕ) × ((run.told r ≡ accepted (ran spent moves)) ⊎ (run.told r ≡ accepted (ran no_frame moves)))
  machine_on_loop a e l frames frames' budget r runs =
      machine.call_on_loop s input (A at p) frames frames' budget r runs g plain (((demand_3_of a e).demand.outcome_exactly loop).0 l)

-- Each marked case, with any table of at least V times (n + 1) cells, two numbers each, and any work slice of as many numbers: it is answered as document 01 says, and demand 3 holds.
pub demand_3_case : (c : Case) → Memᴰ c cases → (table table' work work' : List ℕ) (r : Results Answer Refusal)
    → 2 * cells (grammar_of (text c.lines)).variables (length c.input) ≤ length table
    → cells (grammar_of (text c.lines)).variables (length c.input) ≤ length work
    → QuestionPromise (text c.lines) c.input 1 0 table table' work work' r
    → (told r ≡ accepted (reply c.outcome c.named c.count))
    × Demand3Question (text c.lines) c.input (1 at 0) (grammar_of (text c.lines)) table' (reply c.outcome c.named c.count)
demand_3_case c m table table' work work' r e f promise =
    let answers = case_answered c m table table' work work' r e f promise in (
      answers,
      demand_3_of (text c.lines) c.input 1 0 table work table' work' r promise (grammar_of (text c.lines))
          (case_accepted c m (length table) (length work) e f) (reply c.outcome c.named c.count) answers,
    )

-- Case a, the sign rule of sheet H: V is 6 and n is 3.
pub demand_3_a : (table table' work work' : List ℕ) (r : Results Answer Refusal) → 48 ≤ length table → 24 ≤ length work
    → QuestionPromise (text sheet_h) (45 ∷ 54 ∷ 46 ∷ []) 1 0 table table' work work' r
    → (told r ≡ accepted (reply (result (success 3)) (0 at 0) 5))
    × Demand3Question (text sheet_h) (45 ∷ 54 ∷ 46 ∷ []) (1 at 0) (grammar_of (text sheet_h)) table' (reply (result (success 3)) (0 at 0) 5)
unfolding cases
demand_3_a table table' work work' r e f promise =
    demand_3_case _ (Memᴰ.head refl) table table' work work' r (rw cells_a e) (rw cells_a f) promise

-- Case g, a rule that comes back to itself at the same place: V is 1 and n is 0.
pub demand_3_g : (table table' work work' : List ℕ) (r : Results Answer Refusal) → 2 ≤ length table → 1 ≤ length work
    → QuestionPromise (text (header 1 ∷ (1 ∷ 4 ∷ 1 ∷ 1 ∷ 1 ∷ []) ∷ [])) [] 1 0 table table' work work' r
    → (told r ≡ accepted (reply loop (1 at 0) 1))
    × Demand3Question (text (header 1 ∷ (1 ∷ 4 ∷ 1 ∷ 1 ∷ 1 ∷ []) ∷ [])) [] (1 at 0) (grammar_of (text (header 1 ∷ (1 ∷ 4 ∷ 1 ∷ 1 ∷ 1 ∷ []) ∷ []))) table' (reply loop (1 at 0) 1)
unfolding cases
demand_3_g table table' work work' r e f promise =
    demand_3_case _ (Memᴰ.tail (Memᴰ.tail (Memᴰ.tail (Memᴰ.tail (Memᴰ.tail (Memᴰ.tail
    (Memᴰ.head refl))))))) table table' work work' r (rw cells_g e) (rw cells_g f) promise
