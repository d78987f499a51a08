use Rattle.run_script.proofs.Numbers.{over_early}
use Rattle.run_script.proofs.lines.number.Goals as goal
use Rattle.std.proofs.Common.{sym, ◌∙◌}

pub returns-in_err-number-clause-value : goal.returns-in_err-number-clause-value
returns-in_err-number-clause-value c =
    c.from_residual.ensures
    ∙ sym (over_early c.args.limit 0 c.loop-digit.number c.args.digits.now c.loop-digit.digit-index c.loop-digit-test.true c.loop-digit.invariant.same (sym c.with_digit.ensures ∙ c.in_err-number.was))
