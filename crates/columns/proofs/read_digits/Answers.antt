use Rattle.std.proofs.Common.{arith, get_or, ◌∙◌}
use Rattle.columns.proofs.Laws.{digit_read, digit_fault, all_read, power_step, power_bound, digit_small}
use Rattle.columns.proofs.read_digits.Goals as goal

pub overflow_mul-v : goal.overflow_mul-v
overflow_mul-v c = let p = power_bound _ _ c.loop-b.invariant.0 (omega arith) in omega arith

pub returns-in_err-v : goal.returns-in_err-v
returns-in_err-v c =
    rw c.from_residual.ensures (digit_fault c.args.digits.now c.loop-b.b-index c.loop-b.v (omega arith) c.in_err-v.ensures ∙ c.loop-b.invariant.1)

pub loop-b-preserved : goal.loop-b-preserved
loop-b-preserved c =
    let l = c.loop-b in (
      power_step l.v _ l.b-index l.invariant.0 (digit_small (get_or c.args.digits.now l.b-index 0) c.in_ok-v.ensures),
      digit_read c.args.digits.now l.b-index l.v (omega arith) c.in_ok-v.ensures ∙ l.invariant.1,
    )

pub returns : goal.returns
returns c = all_read c.args.digits.now c.loop-b.b-index c.loop-b.v (omega arith) ∙ c.loop-b.invariant.1
