-- The numbers of the writer and the checker fit 32 bits. Assumes nothing.
use mathlib.Core.Bool.{true≢false}
use mathlib.Core.List.{List}
use mathlib.Core.Option.{some}
use mathlib.Core.Path.{◌≡◌, refl, sym, ap, ◌∙◌, subst}
use Prim.Native.Nat.{ℕ, ◌≤◌}
use native.Mathlib.Omega.{arith}
use lib.ListN.{length}
use Rattle.grammar.specs.Refusal.{Checked, refused, accepted}
use Rattle.grammar.specs.Sheet.{Grammar}
use Rattle.grammar.proofs.Refusals.{refused_each}
use Rattle.schema.specs.Derivation.{Pair, ◌at◌, Result, success, failure, Outcome, result, Has}
use Rattle.schema.specs.Exported.{returned, reported, Fits}
use Rattle.schema.specs.Handed.{Handed, asked, handed, writer_of}
use Rattle.schema.specs.Table.{code}
use Rattle.schema.proofs.Handed.{handed_input, handed_pair}
use Rattle.schema.proofs.Small.{refusal_small, code_small}
use Rattle.finish.specs.Reply.{outcome_of}
use Rattle.writer.specs.Writer.{told, lines_in, RepliesWriting, WriterPromise}
use Rattle.std.specs.Prelude.{Result as Maybe}
use Rattle.grammar.specs.declared.refusal.Refusal.{Refusal}
use Rattle.writer.specs.declared.Written.{Written}
use Rattle.checker.specs.Checker.{told as claims, lines, line_at, check_condition, check_order, claim_of, Claimed, check, Checks}
use Rattle.checker.specs.Proper.{claimed}
use Rattle.checker.specs.declared.Claim.{Claim}
use Rattle.checker.specs.declared.Rejection.{Rejection}
use Rattle.checker.proofs.Call as checker
use Rattle.checker.proofs.CheckRefusals.{check_numbers as refusal-numbers}
use Rattle.reports.specs.Numbers.{reply_code, claim_code, claim_numbers, CheckNumbers}

-- The code of an outcome that the pair of an accepted question has.
pub accepted_code : (s : List ℕ) (h : Handed) (g : Grammar) (A p : ℕ) → handed s h ≡ accepted g → h.pair ≡ some (A at p)
    → (o : Outcome) → Has g.rule h.input (A at p) o → code o ≤ 10001
accepted_code s h g A p e f o d =
    let k = code_small g.rule h.input A p o (handed_pair s h g e (A at p) f).position (handed_input s h g e) d in omega arith

-- An answer fits where each refusal and each code that it can be does.
pub fits_each : {A : Type 0} (code_of_lem : A → ℕ) (t : Checked A) → ((x l : ℕ) → t ≡ refused x l → x ≤ 26) → ((a : A) → t ≡ accepted a → code_of_lem a ≤ 10001) → Fits code_of_lem t
fits_each code_of_lem (refused x l) small few = small x l refl
fits_each code_of_lem (accepted a) small few = few a refl

-- ---- The writer.

module _ (s input : List ℕ) (A p : ℕ) (table table' work work' out out' : List ℕ) (r : Maybe Written Refusal)
    (promise : WriterPromise s input A p table table' work work' out out' r) where
  pub writer_fits : Fits reply_code (told r)
  writer_fits = by_sheet (handed s (writer_of input (A at p) (length table) (length work) (length out))) refl promise
    where
      by_sheet : (o : Checked Grammar) → handed s (writer_of input (A at p) (length table) (length work) (length out)) ≡ o
          → RepliesWriting o input (A at p) table table' work work' out out' (told r) (lines_in r) → Fits reply_code (told r)
      by_sheet (refused x l) e m = let k = refusal_small s _ x l e in subst (Fits reply_code) (sym m.0) (omega arith)
      by_sheet (accepted g) e m =
          let a = m.2 in
          let k = accepted_code s _ g A p e refl a.outcome a.has in
          subst (Fits reply_code) (sym m.1) (subst (λ (o : Outcome). code o ≤ 10001) (sym (ap outcome_of a.says)) k)

-- ---- The checker.

-- The number of a checker's refusal is at most 14.
check_small : (s input : List ℕ) (x : Pair) (reading : List ℕ) (y l : ℕ) → check s input x reading ≡ refused y l → y ≤ 14
unfolding check
check_small s input x reading y l e =
    refused_each (λ n. n ≤ 14) (check_condition s input x reading) (check_order s reading) (claim_of (line_at reading (lines reading))) y l (refusal-numbers s reading) e

-- The code of a claim is that of the result.
claim_code_law : (A p : ℕ) (t : Result) → claim_code (claimed (A at p) t) ≡ code (result t)
claim_code_law A p (success q) = refl
claim_code_law A p failure = refl

module _ (s input : List ℕ) (A p : ℕ) (reading : List ℕ) (r : Maybe Claim Rejection) (checks : Checks s input (A at p) reading r) where
  passed : (c : Claimed) → claims r ≡ accepted c → (o : Checked Grammar) → handed s (asked input (A at p)) ≡ o → claim_code c ≤ 10001
  passed c f (refused y l) e = let k = checker.call_refused s input (A at p) reading r checks y l e in absurd (true≢false (cc))
  passed c f (accepted g) e =
      let y = checker.call_claims s input (A at p) reading r checks g e c f in
      let t = y.0 in
      let same : c ≡ claimed (A at p) t = let h = y.1 in cc in
      let k = accepted_code s _ g A p e refl (result t) (checker.call_derived s input (A at p) reading r checks g e t y.1) in
      subst (λ (d : Claimed). claim_code d ≤ 10001) (sym same) (rw (claim_code_law A p t) k)

  pub check_fits : Fits claim_code (claims r)
  check_fits =
      fits_each claim_code (claims r) (λ y l e. let k = check_small s input (A at p) reading y l (sym checks ∙ e) in omega arith)
      (λ c e. passed c e (handed s (asked input (A at p))) refl)

  -- The numbers of the answer are those of the definition.
  pub check_numbers : (answer answer' : List ℕ) (n : ℕ) → n ≡ returned (claims r) → answer' ≡ reported claim_numbers answer (claims r)
      → CheckNumbers s input A p reading answer answer' n
  check_numbers answer answer' n e f = record { returns = e ∙ ap returned checks; reports = f ∙ ap (reported claim_numbers answer) checks }
