use Rattle.std.proofs.Common.{FitsSigned, rules}
use Rattle.std.specs.Int.{w128}
use Rattle.row_tests.proofs.ZeroTests.{zero_test}
use Rattle.row_tests.proofs.fractions.is_zero.Goals as goal

pub returns : goal.returns
returns c = let f : FitsSigned w128 c.num.result = search rules in zero_test c.args.x.now c.num.result c.num.ensures f
