-- Document 00, sentence by sentence, as theorems about any results that meet the contracts of the calls. Assumes nothing.
use mathlib.Core.List.{List}
use mathlib.Core.Logic.{◌↔◌}
use mathlib.Core.Path.{◌≡◌}
use Prim.Native.Nat.{ℕ, ◌*◌, ◌-◌, ◌/◌, ◌≤◌}
use lib.ListN.{length, take}
use Rattle.std.specs.Prelude.{Result as Results, Option as Maybe}
use Rattle.schema.proofs.Following.{refused_exactly, then_unchanged}
use Rattle.memo.proofs.Following.{question_follows}
use Rattle.writer.proofs.Following.{write_follows}
use Rattle.grammar.specs.Refusal.{refused, accepted}
use Rattle.grammar.specs.Sheet.{Grammar}
use Rattle.grammar.specs.Order.{FirstHolds}
use Rattle.grammar.specs.declared.refusal.Refusal.{Refusal}
use Rattle.schema.specs.Derivation.{Pair, ◌at◌, Result, Derives, Outcome, result, Has}
use Rattle.schema.specs.Handed.{Refuses, handed, asked, question_of, verdict_of, writer_of}
use Rattle.schema.specs.Machine.{says, ran}
use Rattle.finish.specs.Reply.{Reply, outcome_of, told}
use Rattle.memo.specs.Answer.{QuestionPromise}
use Rattle.verdict.specs.Verdict.{numbers, judged, VerdictPromise}
use Rattle.opening.specs.Opening as opening
use Rattle.opening.specs.Opening.{OpeningPromise}
use Rattle.opening.proofs.Promised.{opening_follows}
use Rattle.archive.specs.Archive as archive
use Rattle.archive.specs.Archive.{MovePromise}
use Rattle.archive.specs.Layout.{Layout}
use Rattle.archive.specs.Refusals.{ArchiveRefuses}
use Rattle.archive.specs.Archive.{Stored}
use Rattle.archive.proofs.Promised as archived
use Rattle.writer.specs.Writer as writer
use Rattle.writer.specs.Writer.{lines_in, WriterPromise}
use Rattle.finish.specs.declared.Answer.{Answer}
use Rattle.verdict.specs.declared.Judgement.{Judgement}
use Rattle.writer.specs.declared.Written.{Written}
use Rattle.backtrack.specs.Run as run
use Rattle.backtrack.specs.declared.Ending.{Ending}
use Rattle.checker.specs.Checker as checker
use Rattle.checker.specs.Checker.{Claimed, Checks, check_condition, check_order}
use Rattle.checker.specs.Proper.{Proper, Claims}
use Rattle.checker.specs.declared.Claim.{Claim}
use Rattle.checker.specs.declared.Rejection.{Rejection}
use Rattle.demands.specs.Demands.{verdict_told, claimed_outcome, Demand3Question}
use Rattle.demands.proofs.Demand1 as one
use Rattle.demands.proofs.Demand2 as two
use Rattle.demands.proofs.Demand3 as three

-- ---- Demand 1. "A caller may pass anything .., and the call ends: with an outcome, with the machine's spent or no frame, or with one numbered refusal
-- under exactly the condition in document 01, its table and output then unchanged." That each call ends and meets its contract, whatever it is
-- handed, is what the contracts say, which have no `requires`. For the exported calls: entryreader proofs/Demand1.antt, Opened.antt and Archived.antt;
-- for the program's output: proofs/Output.antt; for the correction and the further question of document 02, here and in demand 3: proofs/Kept.antt, of
-- each marked case as a correction: proofs/Corrected.antt, and over a table that was stored and restored: proofs/Restored.antt.

-- The question.
pub demand_1_question : (s input : List ℕ) (A p : ℕ) (table table' work work' : List ℕ) (r : Results Answer Refusal) → QuestionPromise s input A p table table' work work' r
    → (x l : ℕ) → ((told r ≡ refused x l) ↔ Refuses s (question_of input (A at p) (length table) (length work)) x l)
    × (told r ≡ refused x l → (table' ≡ table) × (work' ≡ work))
demand_1_question s input A p table table' work work' r promise x l =
    let f = question_follows s input A p table table' work work' r promise in
    (refused_exactly f x l, then_unchanged f x l)

-- The verdict.
pub demand_1_verdict : (s input table table' work work' : List ℕ) (r : Results Judgement Refusal) → VerdictPromise s input table table' work work' r
    → (x l : ℕ) → ((verdict_told r ≡ refused x l) ↔ Refuses s (verdict_of input (length table) (length work)) x l)
    × (verdict_told r ≡ refused x l → (table' ≡ table) × (work' ≡ work))
demand_1_verdict s input table table' work work' r promise x l =
    let f = one.verdict_follows s input table table' work work' r promise in
    (refused_exactly f x l, then_unchanged f x l)

-- The opening of document 02, order 7: refused as the verdict.
pub demand_1_opening : (s input table table' work work' : List ℕ) (r : Results (Maybe ℕ) Refusal) → OpeningPromise s input table table' work work' r
    → (x l : ℕ) → ((opening.told r ≡ refused x l) ↔ Refuses s (verdict_of input (length table) (length work)) x l)
    × (opening.told r ≡ refused x l → (table' ≡ table) × (work' ≡ work))
demand_1_opening s input table table' work work' r promise x l =
    let f = opening_follows s input table work table' work' r promise in
    (refused_exactly f x l, then_unchanged f x l)

-- Storing and restoring, of document 02, order 9: from one layout of the cells to another.
pub demand_1_archive : (from to : Layout) (v n : ℕ) (source target target' : List ℕ) (r : Stored) → MovePromise from to v n source target target' r
    → (x l : ℕ) → ((archive.told r ≡ refused x l) ↔ ArchiveRefuses v n (length source) (length target) x l) × (archive.told r ≡ refused x l → target' ≡ target)
demand_1_archive from to v n source target target' r promise x l =
    (archived.refused_exactly from to v n source target target' r promise x l, archived.then_unchanged from to v n source target target' r promise x l)

-- The machine.
pub demand_1_run : (s input : List ℕ) (x : Pair) (frames frames' : List ℕ) (budget : ℕ) (r : Results Ending Refusal) → run.Runs s input x frames frames' budget r
    → (y l : ℕ) → ((run.told r ≡ refused y l) ↔ Refuses s (asked input x) y l) × (run.told r ≡ refused y l → frames' ≡ frames)
demand_1_run s input x frames frames' budget r promise y l =
    let f = one.run_follows s input x frames frames' budget r promise in
    (refused_exactly f y l, then_unchanged f y l)

-- The writer.
pub demand_1_write : (s input : List ℕ) (A p : ℕ) (table table' work work' out out' : List ℕ) (r : Results Written Refusal) → WriterPromise s input A p table table' work work' out out' r
    → (x l : ℕ) → ((writer.told r ≡ refused x l) ↔ Refuses s (writer_of input (A at p) (length table) (length work) (length out)) x l)
    × (writer.told r ≡ refused x l → (table' ≡ table) × (work' ≡ work) × (out' ≡ out))
demand_1_write s input A p table table' work work' out out' r promise x l =
    let f = write_follows s input A p table table' work work' out out' r promise in
    (refused_exactly f x l, then_unchanged f x l)

-- The checker.
pub demand_1_check : (s input : List ℕ) (x : Pair) (reading : List ℕ) (r : Results Claim Rejection) → Checks s input x reading r
    → (y l : ℕ) → (checker.told r ≡ refused y l) ↔ FirstHolds (check_condition s input x reading) (check_order s reading) y l
demand_1_check = one.check_refused

-- ---- Demand 2. "Rules mean what the generalized TMG Recognition Schema (gTS) says. Success and failure come where it derives them and nowhere else."
-- For the question this is `outcome_exactly` of demand 3.

-- What the machine names, success, failure or missing, the pair has.
pub demand_2_names : (s input : List ℕ) (x : Pair) (frames frames' : List ℕ) (budget : ℕ) (r : Results Ending Refusal) → run.Runs s input x frames frames' budget r
    → (g : Grammar) → handed s (asked input x) ≡ accepted g → (o : Outcome) (moves : ℕ) → run.told r ≡ accepted (ran (says o) moves) → Has g.rule input x o
demand_2_names = two.machine_derived

-- Document 01: "these are what a passed reading claims". It is a success or a failure, and the pair has it.
pub demand_2_claims : (s input : List ℕ) (x : Pair) (reading : List ℕ) (r : Results Claim Rejection) → Checks s input x reading r
    → (g : Grammar) → handed s (asked input x) ≡ accepted g → (c : Claimed) → checker.told r ≡ accepted c → Has g.rule input x (claimed_outcome c)
demand_2_claims = two.claim_derived

-- Document 01: "Verdict asks the start variable at 0". Its numbers are those of the outcome that this pair has.
pub demand_2_verdict : (s input table table' work work' : List ℕ) (r : Results Judgement Refusal) → VerdictPromise s input table table' work work' r
    → (g : Grammar) → handed s (verdict_of input (length table) (length work)) ≡ accepted g
    → (a : Reply) × (numbers r ≡ judged (length input) (accepted a)) × ((o : Outcome) → (outcome_of a ≡ o) ↔ Has g.rule input (g.start at 0) o)
demand_2_verdict = two.verdict_derived

-- Document 01: "The writer asks the question as the engine does, with the same result". Its outcome is the one that the pair has.
pub demand_2_written : (s input : List ℕ) (A p : ℕ) (table table' work work' out out' : List ℕ) (r : Results Written Refusal) → WriterPromise s input A p table table' work work' out out' r
    → (g : Grammar) → handed s (writer_of input (A at p) (length table) (length work) (length out)) ≡ accepted g
    → (a : Reply) × (writer.told r ≡ accepted a) × ((o : Outcome) → (outcome_of a ≡ o) ↔ Has g.rule input (A at p) o)
demand_2_written = two.written_derived

-- "The backtracking machine gives the outcome of a k-step derivation exactly when it is lent at least 2k - 1 moves and as many frames as the
-- derivation is high."
pub demand_2_machine : (s input : List ℕ) (x : Pair) (frames frames' : List ℕ) (budget : ℕ) (r : Results Ending Refusal) → run.Runs s input x frames frames' budget r
    → (g : Grammar) → handed s (asked input x) ≡ accepted g → {t : Result} {k h : ℕ} → Derives g.rule input x t k h
    → ((moves : ℕ) × (run.told r ≡ accepted (ran (says (result t)) moves))) ↔ ((2 * k - 1 ≤ budget) × (h ≤ length frames / 3))
demand_2_machine s input x frames frames' budget r runs g e d = two.machine_exactly s input x frames frames' budget r runs g e d

-- "The checker passes a reading exactly when each line follows from a rule and earlier lines and the last is the pair in question;"
pub demand_2_checker : (s input : List ℕ) (x : Pair) (reading : List ℕ) (r : Results Claim Rejection) → Checks s input x reading r
    → (g : Grammar) → handed s (asked input x) ≡ accepted g → (t : Result) → Claims r x t ↔ Proper g input reading x t
demand_2_checker = two.checker_exactly

-- "every reading we write passes", with the same outcome and end. For the reading in the program's output: proofs/Output.antt.
pub demand_2_writer : (s input : List ℕ) (A p : ℕ) (table table' work work' out out' : List ℕ) (r : Results Written Refusal) → WriterPromise s input A p table table' work work' out out' r
    → (g : Grammar) → handed s (writer_of input (A at p) (length table) (length work) (length out)) ≡ accepted g
    → (a : Reply) → writer.told r ≡ accepted a → (t : Result) → outcome_of a ≡ result t
    → (c : Results Claim Rejection) → Checks s input (A at p) (take (49 * lines_in r) out') c → Claims c (A at p) t
demand_2_writer = two.written_passes

-- ---- Demand 3. "Take any question (sheet, entry, variable, place) that the table engine does not refuse, whatever its table and work slice held before."
pub demand_3 : (s input : List ℕ) (A p : ℕ) (table work table' work' : List ℕ) (r : Results Answer Refusal) → QuestionPromise s input A p table table' work work' r
    → (g : Grammar) → handed s (question_of input (A at p) (length table) (length work)) ≡ accepted g
    → (a : Reply) × (told r ≡ accepted a) × Demand3Question s input (A at p) g table' a
demand_3 = three.demand_3
