-- A table that was stored by position and restored (document 02, order 9) serves like the one that was kept: demand 3 of what is asked over it, and every
-- marked case. Assumes nothing.
use mathlib.Core.Bool.{false}
use mathlib.Core.List.{List, Memᴰ}
use mathlib.Core.Path.{◌≡◌, sym, subst}
use Prim.Native.Nat.{ℕ, ◌+◌, ◌*◌, ◌≤◌, ◌<◌}
use lib.ListN.{length}
use Rattle.std.specs.Prelude.{Result as Results}
use Rattle.grammar.specs.Printing.{text}
use Rattle.grammar.specs.Refusal.{accepted}
use Rattle.grammar.specs.Sheet.{Grammar, grammar_of, sheet}
use Rattle.grammar.specs.declared.refusal.Refusal.{Refusal}
use Rattle.schema.specs.Cases.{Case, cases}
use Rattle.schema.specs.Derivation.{◌at◌}
use Rattle.schema.specs.Handed.{handed, question_of}
use Rattle.schema.specs.Table.{cells, contents}
use Rattle.schema.proofs.Handed.{handed_sheet}
use Rattle.schema.proofs.SheetClosed.{sheet_closed}
use Rattle.finish.specs.Reply.{Reply, told}
use Rattle.finish.specs.declared.Answer.{Answer}
use Rattle.memo.specs.Answer.{QuestionPromise}
use Rattle.memo.proofs.Promised.{case_accepted}
use Rattle.kept.specs.Differs.{differs_elsewhere}
use Rattle.kept.specs.Kept.{retained, KeptTable}
use Rattle.archive.specs.StoredTable.{RoundTrip}
use Rattle.archive.proofs.Kept.{restored_kept, restored_length}
use Rattle.correction.specs.Call.{Alike}
use Rattle.correction.specs.Correction.{CorrectionPromise}
use Rattle.correction.specs.Further.{FurtherPromise}
use Rattle.correction.proofs.Promised.{question_kept}
use Rattle.correction.proofs.Shared.{shared_table}
use Rattle.demands.specs.Demands.{Demand3Kept}
use Rattle.demands.proofs.Kept.{demand_3_correct, demand_3_further}

-- Of any accepted sheet.
again_kept : (s : List ℕ) (g : Grammar) → sheet s ≡ accepted g → (input table restored : List ℕ) → KeptTable g.rule g.variables input table
    → RoundTrip g.variables (length input) table restored → KeptTable g.rule g.variables input restored
again_kept s g reads = restored_kept g.rule g.variables (sheet_closed s g reads)

-- Demand 3 of a further question over what is restored, of any question that is not refused,
pub demand_3_restored : (s input : List ℕ) (A p : ℕ) (table restored work table' work' : List ℕ) (r : Results Answer Refusal) → FurtherPromise s input A p restored table' work work' r
    → (g : Grammar) → handed s (question_of input (A at p) (length restored) (length work)) ≡ accepted g
    → KeptTable g.rule g.variables input table → RoundTrip g.variables (length input) table restored
    → (a : Reply) × (told r ≡ accepted a) × Demand3Kept s input (A at p) g (contents (length input) restored) table' a
demand_3_restored s input A p table restored work table' work' r promise g accepts kept trip =
    demand_3_further s input A p restored work table' work' r promise g accepts (again_kept s g (handed_sheet s _ g accepts) input table restored kept trip)

-- and of a correction, over what is restored of a table of the old entry.
pub demand_3_restored_correct : (s old input : List ℕ) (A p c : ℕ) (table restored work table' work' : List ℕ) (r : Results Answer Refusal)
    → CorrectionPromise s old input A p c restored table' work work' r
    → (g : Grammar) → handed s (question_of input (A at p) (length restored) (length work)) ≡ accepted g → c < length input → differs_elsewhere c old input ≡ false
    → KeptTable g.rule g.variables old table → RoundTrip g.variables (length old) table restored
    → (a : Reply) × (told r ≡ accepted a) × Demand3Kept s input (A at p) g (retained (c + 1) (length input) restored) table' a
demand_3_restored_correct s old input A p c table restored work table' work' r promise g accepts below same kept trip =
    demand_3_correct s old input A p c restored work table' work' r promise g accepts below same (again_kept s g (handed_sheet s _ g accepts) old table restored kept trip)

-- Each marked case, asked, stored, restored, and asked further: the same outcome and named pair again, which `case_answered` of memo gives.
pub restored_case : (c : Case) → Memᴰ c cases → (table table' work work' : List ℕ) (r : Results Answer Refusal)
    → 2 * cells (grammar_of (text c.lines)).variables (length c.input) ≤ length table
    → cells (grammar_of (text c.lines)).variables (length c.input) ≤ length work
    → QuestionPromise (text c.lines) c.input 1 0 table table' work work' r
    → (restored after work₂ work₂' : List ℕ) (q : Results Answer Refusal) → RoundTrip (grammar_of (text c.lines)).variables (length c.input) table' restored
    → cells (grammar_of (text c.lines)).variables (length c.input) ≤ length work₂
    → FurtherPromise (text c.lines) c.input 1 0 restored after work₂ work₂' q → Alike q r
restored_case c m table table' work work' r room work_room asks restored after work₂ work₂' q trip work-room₂ asks-further =
    let s = text c.lines in
    let g = grammar_of s in
    let input = c.input in
    let accepts : handed s (question_of input (1 at 0) (length table) (length work)) ≡ accepted g = case_accepted c m (length table) (length work) room work_room in
    let room₂ = subst (λ (k : ℕ). 2 * cells g.variables (length input) ≤ k) (sym (restored_length trip)) trip.room in
    let accepts₂ : handed s (question_of input (1 at 0) (length restored) (length work₂)) ≡ accepted g = case_accepted c m (length restored) (length work₂) room₂ work-room₂ in
    let kept = question_kept s input 1 0 table table' work work' r asks g accepts in
    let again = again_kept s g (handed_sheet s _ g accepts) input table' restored kept trip in
    (shared_table s input g).heard_alone 1 0 restored after work₂ work₂' q again accepts₂ asks-further table table' work work' r accepts asks
