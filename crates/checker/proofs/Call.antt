-- Demand 2 for readings, and the checker's part of demand 3: of any result that meets the checker's promise on a question that is not refused.
-- Assumes nothing.
use mathlib.Core.Bool.{true≢false}
use mathlib.Core.List.{List}
use mathlib.Core.Logic.{◌↔◌}
use mathlib.Core.Path.{◌≡◌, refl, sym, ap, ◌∙◌}
use Prim.Native.Nat.{ℕ}
use lib.ListN.{length}
use Rattle.std.specs.Prelude.{Result as Answer}
use Rattle.grammar.specs.Refusal.{refused, accepted}
use Rattle.grammar.specs.Sheet.{Grammar}
use Rattle.schema.specs.Derivation.{Pair, ◌at◌, Result, success, failure, Outcome, result, Has}
use Rattle.schema.specs.Handed.{asked, handed}
use Rattle.schema.proofs.Laws.{has_one}
use Rattle.checker.specs.Checker.{Claimed, judged, told, Checks}
use Rattle.checker.specs.Proper.{Proper, claimed, Claims}
use Rattle.checker.specs.declared.Claim.{Claim}
use Rattle.checker.specs.declared.Rejection.{Rejection}
use Rattle.checker.proofs.Derived.{each_derived}
use Rattle.checker.proofs.Exactly.{judged_proper, proper_judged}
use Rattle.checker.proofs.Certificate.{check_refused, check_judged}

-- A claim is of one result.
claimed_one : (x : Pair) (r t : Result) → claimed x r ≡ claimed x t → r ≡ t
claimed_one (A at p) (success e) (success f) h = cc
claimed_one (A at p) (success e) failure h = absurd (true≢false (cc))
claimed_one (A at p) failure (success f) h = absurd (true≢false (cc))
claimed_one (A at p) failure failure h = refl

-- A certificate that a pair has a result proves it.
pub proper_derived : (g : Grammar) (input s : List ℕ) (x : Pair) (t : Result) → Proper g input s x t → Has g.rule input x (result t)
proper_derived g input s x t p = each_derived g input p.each (length p.lines) x t p.last

module _ (sheet input : List ℕ) (x : Pair) (certificate : List ℕ) (r : Answer Claim Rejection) (checks : Checks sheet input x certificate r) where
  -- A question that is refused is refused with any certificate.
  pub call_refused : (y l : ℕ) → handed sheet (asked input x) ≡ refused y l → told r ≡ refused y l
  call_refused y l e = checks ∙ sym (check_refused sheet input x certificate y l e)

  module _ (g : Grammar) (e : handed sheet (asked input x) ≡ accepted g) where
    judges : told r ≡ judged g.rule g.variables input x certificate
    judges = checks ∙ sym (check_judged sheet input x certificate g refl refl e)

    -- What is passed claims a result of the pair.
    pub call_claims : (c : Claimed) → told r ≡ accepted c → (t : Result) × Claims r x t
    call_claims c h =
        let y = judged_proper g input certificate x c (sym judges ∙ h) in
        (y.0, h ∙ ap accepted y.1)

    -- "The checker passes a reading exactly when each line follows from a rule and earlier lines and the last is the pair in question".
    pub call_exactly : (t : Result) → Claims r x t ↔ Proper g input certificate x t
    call_exactly t = (forth, back)
      where
        forth : Claims r x t → Proper g input certificate x t
        forth h =
            let y = judged_proper g input certificate x (claimed x t) (sym judges ∙ h) in
            rw (claimed_one x t y.0 y.1) y.2

        back : Proper g input certificate x t → Claims r x t
        back p = judges ∙ proper_judged g input certificate x t p

    -- What a passed certificate claims is derived.
    pub call_derived : (t : Result) → Claims r x t → Has g.rule input x (result t)
    call_derived t h = proper_derived g input certificate x t ((call_exactly t).0 h)

    -- It is the pair's outcome.
    pub call_agrees : (t : Result) (o : Outcome) → Claims r x t → Has g.rule input x o → o ≡ result t
    call_agrees t o h k = has_one g.rule input x o (result t) k (call_derived t h)
