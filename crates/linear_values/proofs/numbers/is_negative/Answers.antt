use Rattle.std.proofs.Common.{FitsSigned, rules}
use Rattle.std.specs.Int.{w128}
use Rattle.linear_rows.proofs.exported.Narrow.{negative_plain, negative_strict}
use Rattle.linear_values.proofs.numbers.is_negative.Goals as goal

pub returns-then-strict : goal.returns-then-strict
returns-then-strict c = let f : FitsSigned w128 c.num.result = search rules in rw c.if-strict.true (negative_strict c.args.x.now c.num.result c.num.ensures f)

pub returns-else-strict : goal.returns-else-strict
returns-else-strict c = let f : FitsSigned w128 c.num-else-strict.result = search rules in rw c.if-strict.false (negative_plain c.args.x.now c.num-else-strict.result c.num-else-strict.ensures f)
