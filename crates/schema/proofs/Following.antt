-- Calls that answer as `handed` says. Assumes nothing.
use mathlib.Core.Bool.{true≢false}
use mathlib.Core.List.{List}
use mathlib.Core.Logic.{◌↔◌}
use mathlib.Core.Path.{◌≡◌, refl}
use Prim.Native.Nat.{ℕ}
use Rattle.grammar.specs.Refusal.{Checked, refused, accepted}
use Rattle.grammar.specs.Sheet.{Grammar}
use Rattle.schema.specs.Handed.{Handed, Refuses, handed}
use Rattle.schema.proofs.CallRefusals.{call_refused}

-- A call that answers as `handed` says: refused with the same number and line, and then with everything as it was, or accepted.
pub record Follows (B : Type 0) (s : List ℕ) (h : Handed) (t : Checked B) (unchanged : Type 0) : Type 0 where
  pub refused_as : (x l : ℕ) → handed s h ≡ refused x l → (t ≡ refused x l) × unchanged
  pub accepted_as : (g : Grammar) → handed s h ≡ accepted g → (b : B) × (t ≡ accepted b)

module _ {B : Type 0} {s : List ℕ} {h : Handed} {t : Checked B} {unchanged : Type 0} (follows : Follows B s h t unchanged) where
  module _ (x l : ℕ) where
    handed_refused : t ≡ refused x l → handed s h ≡ refused x l
    handed_refused e = by_sheet (handed s h) refl
      where
        by_sheet : (o : Checked Grammar) → handed s h ≡ o → handed s h ≡ refused x l
        by_sheet (refused y m) q = let f = (follows.refused_as y m q).0 in cc
        by_sheet (accepted g) q = let f = (follows.accepted_as g q).1 in absurd (true≢false (cc))

    -- Refused exactly under the condition,
    pub refused_exactly : (t ≡ refused x l) ↔ Refuses s h x l
    refused_exactly =
        let c = call_refused s h x l in
        (λ e. c.0 (handed_refused e), λ f. (follows.refused_as x l (c.1 f)).0)

    -- and then everything is as it was.
    pub then_unchanged : t ≡ refused x l → unchanged
    then_unchanged e = (follows.refused_as x l (handed_refused e)).1
