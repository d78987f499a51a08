use Rattle.heyvl_syntax.proofs.Digits.{kept_in_limit, too_large_whole}
use Rattle.heyvl_syntax.proofs.literals.literal.Goals as goal
use Rattle.std.proofs.Common.{None, Some, sym, ◌∙◌, ◌≡◌}
use Rattle.heyvl_syntax.specs.internal.Fronts.{below_limit}
use Rattle.heyvl_syntax.specs.Literals.{fraction, whole, with_digit, without_last_zeros}
use Rattle.std.specs.List.{fold}

pub returns-in_err-front : goal.returns-in_err-front
returns-in_err-front c =
    let none : below_limit (fold with_digit 0 (whole c.args.text.now)) ≡ None = rw (← c.split_number.ensures.whole) (sym c.number_from.ensures ∙ c.in_err-front.was) in
    let large = too_large_whole c.args.text.now none in
    rw large c.from_residual.ensures

pub returns-in_err-digits : goal.returns-in_err-digits
returns-in_err-digits c =
    let all : below_limit (fold with_digit c.in_ok-front.front (fraction c.args.text.now)) ≡ Some c.in_ok-number_from.field-0 = rw (← c.split_number.ensures.fraction) (sym c.number_from-2.ensures ∙ c.in_ok-number_from.was) in
    let none : below_limit (fold with_digit c.in_ok-front.front (without_last_zeros (fraction c.args.text.now))) ≡ None = rw (← c.split_number.ensures.fraction, ← c.without_last_zeros-kept.ensures.value) (sym c.number_from-3.ensures ∙ c.in_err-digits.was) in
    absurd (kept_in_limit c.in_ok-front.front c.in_ok-number_from.field-0 (fraction c.args.text.now) all none)
