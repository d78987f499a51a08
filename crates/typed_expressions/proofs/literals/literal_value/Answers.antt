use Rattle.typed_expressions.proofs.exported.LiteralFractions.{literal_is}
use Rattle.typed_expressions.proofs.literals.literal_value.Goals as goal
use Rattle.heyvl_num.specs.Rational.{ratio}
use Rattle.std.proofs.Common.{ap, rules, FitsSigned, ◌∙◌, ◌^◌}
use Rattle.std.specs.Int.{w128}
use Rattle.std.specs.Prelude.{Some}
use Rattle.std.proofs.lemmas.Int.{to_z-of_z}

pub returns-then-number-le-MAX_PLACES : goal.returns-then-number-le-MAX_PLACES
returns-then-number-le-MAX_PLACES c =
    let f : FitsSigned w128 c.args.number.digits = search rules in
    c.fraction.ensures ∙ ap (λ z. Some (ratio z (10 ^ c.args.number.places))) (to_z-of_z w128 c.args.number.digits f) ∙ literal_is c.args.number (search rules) (search rules)
