use Rattle.typed_right_sides.proofs.WeightFractions.{at_most_one_is}
use Rattle.typed_right_sides.proofs.weights.at_most_one.Goals as goal
use Rattle.std.proofs.Common.{FitsSigned, rules}
use Rattle.std.proofs.lemmas.Int.{to_z-of_z}
use Rattle.std.specs.Int.{w128}

pub returns : goal.returns
returns c =
    let f : FitsSigned w128 c.num.result = search rules in
    let g : FitsSigned w128 c.den.result = search rules in
    rw (to_z-of_z w128 c.num.result f, to_z-of_z w128 c.den.result g, c.num.ensures, c.den.ensures) (at_most_one_is c.args.value)
