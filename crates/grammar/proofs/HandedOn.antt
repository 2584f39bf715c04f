-- An error that `?` hands on as it is. Assumes nothing.
use mathlib.Core.Path.{◌≡◌, ap, ◌∙◌}
use Rattle.std.specs.Prelude.{Result, Err}
use Rattle.std.specs.Result.{IsErrAnd}
use Rattle.std.proofs.lemmas.Result.{err_from_is_err_and}

pub handed_on : {T E : Type 0} {r : Result T E} {e : E} → IsErrAnd r (λ d. d ≡ e) → r ≡ Err e
handed_on {r = r} h = let p = err_from_is_err_and r h in p.1 ∙ ap Err p.2
