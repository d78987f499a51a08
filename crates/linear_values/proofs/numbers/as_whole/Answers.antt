use Rattle.std.proofs.Common.{sym, ◌∙◌, rules, FitsSigned}
use Rattle.std.specs.Int.{w128}
use Rattle.linear_rows.proofs.exported.Narrow.{seen}
use Rattle.linear_values.proofs.WholeFractions.{narrow_found}
use Rattle.linear_values.proofs.numbers.as_whole.Goals as goal

pub returns-then-is_whole : goal.returns-then-is_whole
returns-then-is_whole c = let f : FitsSigned w128 c.num.result = search rules in narrow_found c.args.x.now _ c.narrow.result (sym c.is_whole.ensures ∙ c.if-is_whole.true) (seen _ _ c.num.ensures f) c.narrow.ensures
