use Rattle.std.proofs.Common.{refl, sym, ◌∙◌, rules, FitsSigned, pos}
use Rattle.std.specs.Int.{w128}
use Rattle.linear_rows.proofs.exported.Narrow.{seen, same, den_less}
use Rattle.linear_values.proofs.Factors.{quotient_is, product_in_range, quotient_found}
use Rattle.linear_values.proofs.tightening.any_quotient.Goals as goal

pub overflow_mul-k : goal.overflow_mul-k
overflow_mul-k c = let f : FitsSigned w128 c.args.k = search rules in let g : FitsSigned w128 c.den.result = search rules in product_in_range c.args.k (pos c.args.x.now.den) _ _ (seen c.args.k c.args.k refl f) (seen _ _ c.den.ensures g) c.requires.narrow (den_less c.args.x.now c.requires.sized)

pub unwrap-requires : goal.unwrap-requires
unwrap-requires c = let f : FitsSigned w128 c.args.k = search rules in let g : FitsSigned w128 c.den.result = search rules in let h : FitsSigned w128 c.num.result = search rules in let e = c.new.ensures ∙ quotient_found c.args.k c.den.result c.num.result c.args.x.now f g h c.den.ensures c.num.ensures c.requires.narrow c.requires.sized c.requires.nonzero in rw e (search rules)

pub returns : goal.returns
returns c = let f : FitsSigned w128 c.args.k = search rules in let g : FitsSigned w128 c.den.result = search rules in let h : FitsSigned w128 c.num.result = search rules in λ w e. same c.unwrap.result _ (sym c.unwrap.ensures ∙ c.new.ensures ∙ quotient_found c.args.k c.den.result c.num.result c.args.x.now f g h c.den.ensures c.num.ensures c.requires.narrow c.requires.sized c.requires.nonzero) ∙ quotient_is c.args.k c.args.x.now w c.requires.nonzero e
