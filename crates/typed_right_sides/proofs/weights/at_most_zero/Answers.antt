use Rattle.typed_right_sides.proofs.WeightFractions.{at_most_zero_is}
use Rattle.typed_right_sides.proofs.weights.at_most_zero.Goals as goal
use Rattle.std.proofs.Common.{FitsSigned, rules}
use Rattle.std.proofs.lemmas.Int.{to_z-of_z}
use Rattle.std.specs.Int.{w128}

pub returns : goal.returns
returns c =
    let f : FitsSigned w128 c.num.result = search rules in
    rw (to_z-of_z w128 c.num.result f, c.num.ensures) (at_most_zero_is c.args.value)
