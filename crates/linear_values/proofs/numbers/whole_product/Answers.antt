use Rattle.std.proofs.Common.{sym, ◌∙◌, rules, FitsSigned}
use Rattle.std.specs.Int.{w128}
use Rattle.linear_rows.proofs.exported.Narrow.{same}
use Rattle.linear_values.proofs.WholeFractions.{product_in_range, whole_product_found}
use Rattle.linear_values.proofs.numbers.whole_product.Goals as goal

pub overflow_mul-num : goal.overflow_mul-num
overflow_mul-num c = let f : FitsSigned w128 c.num.result = search rules in let g : FitsSigned w128 c.num-2.result = search rules in product_in_range c.args.x.now c.args.y.now c.num.result c.num-2.result c.num.ensures c.num-2.ensures f g c.requires.left c.requires.right

pub unwrap-requires : goal.unwrap-requires
unwrap-requires c = let f : FitsSigned w128 c.num.result = search rules in let g : FitsSigned w128 c.num-2.result = search rules in let e = c.new.ensures ∙ whole_product_found c.args.x.now c.args.y.now c.num.result c.num-2.result c.num.ensures c.num-2.ensures f g c.requires.left c.requires.right c.requires.whole in rw e (search rules)

pub returns : goal.returns
returns c = let f : FitsSigned w128 c.num.result = search rules in let g : FitsSigned w128 c.num-2.result = search rules in same c.unwrap.result _ (sym c.unwrap.ensures ∙ c.new.ensures ∙ whole_product_found c.args.x.now c.args.y.now c.num.result c.num-2.result c.num.ensures c.num-2.ensures f g c.requires.left c.requires.right c.requires.whole)
