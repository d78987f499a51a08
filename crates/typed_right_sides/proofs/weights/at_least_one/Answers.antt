use Rattle.typed_right_sides.proofs.WeightFractions.{at_least_one_is}
use Rattle.typed_right_sides.proofs.weights.at_least_one.Goals as goal
use Rattle.std.proofs.Common.{FitsSigned, rules}
use Rattle.std.proofs.lemmas.Int.{to_z-of_z}
use Rattle.std.specs.Int.{w128}

pub returns : goal.returns
returns c =
    let f : FitsSigned w128 c.num.result = search rules in
    let g : FitsSigned w128 c.den.result = search rules in
    rw (to_z-of_z w128 c.den.result g, to_z-of_z w128 c.num.result f, c.den.ensures, c.num.ensures) (at_least_one_is c.args.value)
