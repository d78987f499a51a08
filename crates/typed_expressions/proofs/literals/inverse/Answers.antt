use Rattle.typed_expressions.proofs.exported.LiteralFractions.{inverse_of_literal}
use Rattle.typed_expressions.proofs.literals.inverse.Goals as goal
use Rattle.heyvl_num.specs.Rational.{ratio}
use Rattle.std.proofs.Common.{ap, pos, rules, FitsSigned, ◌∙◌, ◌^◌}
use Rattle.std.specs.Int.{w128}
use Rattle.std.specs.Prelude.{Some, unsigned_abs}
use Rattle.std.proofs.lemmas.Int.{to_z-of_z}

pub returns-then-number-le-MAX_PLACES : goal.returns-then-number-le-MAX_PLACES
returns-then-number-le-MAX_PLACES c =
    let f : FitsSigned w128 c.args.number.digits = search rules in
    c.inverse_fraction.ensures ∙ ap (λ z. Some (ratio (pos (10 ^ c.args.number.places)) (unsigned_abs z))) (to_z-of_z w128 c.args.number.digits f) ∙ inverse_of_literal c.args.number (search rules) (search rules)
