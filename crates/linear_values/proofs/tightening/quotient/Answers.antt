use Rattle.std.proofs.Common.{FitsSigned, rules}
use Rattle.std.specs.Int.{w128}
use Rattle.linear_values.proofs.Factors.{own_quotient}
use Rattle.linear_values.proofs.tightening.quotient.Goals as goal

pub returns-then-k-num : goal.returns-then-k-num
returns-then-k-num c = let f : FitsSigned w128 c.args.k = search rules in let g : FitsSigned w128 c.num.result = search rules in λ w e. own_quotient c.args.k c.num.result c.args.x.now w c.denominator.result f g c.num.ensures c.if-k-num.true c.denominator.ensures c.requires.nonzero e
