use Rattle.std.proofs.Common.{FitsSigned, rules}
use Rattle.std.specs.Int.{w128}
use Rattle.linear_values.proofs.WholeFractions.{whole_test}
use Rattle.linear_values.proofs.numbers.is_whole.Goals as goal

pub returns : goal.returns
returns c = let f : FitsSigned w128 c.den.result = search rules in whole_test c.args.x.now c.den.result c.den.ensures f
