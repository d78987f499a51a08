use Rattle.std.proofs.Common.{sym, ◌∙◌, rules, FitsSigned}
use Rattle.std.specs.Int.{w128}
use Rattle.linear_rows.proofs.exported.Narrow.{same}
use Rattle.linear_values.proofs.WholeFractions.{den_found}
use Rattle.linear_values.proofs.tightening.denominator.Goals as goal

pub unwrap-requires : goal.unwrap-requires
unwrap-requires c = let f : FitsSigned w128 c.den.result = search rules in let e = c.new.ensures ∙ den_found c.args.x.now c.den.result c.den.ensures f c.requires in rw e (search rules)

pub returns : goal.returns
returns c = let f : FitsSigned w128 c.den.result = search rules in same c.unwrap.result _ (sym c.unwrap.ensures ∙ c.new.ensures ∙ den_found c.args.x.now c.den.result c.den.ensures f c.requires)
