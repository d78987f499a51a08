use Rattle.std.proofs.Common.{arith, ◌≡◌, ◌∷◌}
use Rattle.std.proofs.lemmas.Grind.{common_steps}
use Rattle.cert_text.proofs.FrontDigits.{digit_more, more_than_none}
use Rattle.cert_text.proofs.fronts.with_digits.Goals as goal

pub digits-preserved : goal.digits-preserved
digits-preserved c =
    let q : c.digits.rest.now ≡ c.in-Some.digit.now ∷ c.in-Some.behind.now = grind (arith, common_steps) in
    let i = c.digits.invariant in
    let r = c.if-not-is_ascii_digit.ensures.cases in
    let n = c.in_ok-number.ensures in (
      more_than_none c.digits.number c.in-Some.digit.now c.in_ok-number.number i.0 n.0,
      digit_more _ c.digits.number c.in-Some.digit.now c.in_ok-number.number c.digits.rest.now c.in-Some.behind.now i.1 q i.0 r n.0 n.1,
    )
