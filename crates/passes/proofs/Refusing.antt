-- What a refusal with 19 tells, and none. Assumes nothing.
use Rattle.std.proofs.Common.{◌≡◌, Bool, true, false, refl, Ok, Err}
use Rattle.grammar.specs.declared.refusal.Refusal.{Refusal}
use Rattle.grammar.specs.declared.refusal.Refusal.TheVariants.{Cell}
use Rattle.passes.specs.Passes.{refused_if}

pub out_refused : (out : Bool) {e : Refusal} → Err e ≡ refused_if out → (out ≡ true) × (e ≡ Cell)
out_refused true h = (refl, cc)
out_refused false h = cc

pub in_range : (out : Bool) {u : Unit {0}} → Ok u ≡ refused_if out → out ≡ false
in_range true h = cc
in_range false h = refl

pub refuses_out : (out : Bool) {e : Refusal} → out ≡ true → e ≡ Cell → Err e ≡ refused_if out
refuses_out true h k = cc
refuses_out false h k = cc
