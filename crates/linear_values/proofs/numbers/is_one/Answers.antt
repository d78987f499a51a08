use Rattle.std.proofs.Common.{sym, ◌∙◌, FitsSigned, rules}
use Rattle.std.specs.Int.{w128}
use Rattle.linear_values.proofs.WholeFractions.{one_found}
use Rattle.linear_values.proofs.numbers.is_one.Goals as goal

pub returns-then-is_whole : goal.returns-then-is_whole
returns-then-is_whole c = let f : FitsSigned w128 c.num.result = search rules in λ e. one_found c.args.x.now c.num.result c.num.ensures f (sym c.is_whole.ensures ∙ c.if-is_whole.true) e
