use Rattle.heyvl_syntax.proofs.Digits.{over_early}
use Rattle.heyvl_syntax.proofs.literals.number_from.Goals as goal
use Rattle.std.proofs.Common.{sym, ◌∙◌}

pub returns-in_err-number : goal.returns-in_err-number
returns-in_err-number c =
    c.from_residual.ensures
    ∙ sym (over_early c.args.start c.loop-digit.number c.args.digits.now c.loop-digit.digit-index c.loop-digit-test.true c.loop-digit.invariant.same (sym c.with_digit.ensures ∙ c.in_err-number.was))
