use Rattle.std.proofs.Common.{sym, ◌∙◌, ap, rules, FitsSigned}
use Rattle.std.specs.Prelude.{Some}
use Rattle.std.specs.Int.{w128}
use Rattle.linear_rows.proofs.exported.Narrow.{seen}
use Rattle.linear_values.proofs.Products.{crossed_some, refused_left, refused_right, refused, made, zero_product, no_product, the_product_found, the_product_large}
use Rattle.linear_values.proofs.multiples.crosswise_product.Goals as goal

pub returns-then-is_zero : goal.returns-then-is_zero
returns-then-is_zero c = ap Some c.zero.ensures ∙ sym (zero_product c.args.w.now c.args.c.now (sym c.is_zero.ensures ∙ c.if-is_zero.true))

pub returns-in_err-left : goal.returns-in_err-left
returns-in_err-left c = let f : FitsSigned w128 c.num.result = search rules in let g : FitsSigned w128 c.den.result = search rules in c.from_residual.ensures ∙ no_product c.args.w.now c.args.c.now (refused_left c.args.w.now c.args.c.now _ _ c.requires (sym c.is_zero.ensures ∙ c.if-is_zero.false) (seen _ _ c.num.ensures f) (seen _ _ c.den.ensures g) (sym c.in_err-left.was ∙ c.new.ensures))

pub returns-in_err-right : goal.returns-in_err-right
returns-in_err-right c = let f : FitsSigned w128 c.num.result = search rules in let g : FitsSigned w128 c.den.result = search rules in let h : FitsSigned w128 c.num-2.result = search rules in let k : FitsSigned w128 c.den-2.result = search rules in c.from_residual-in_err-right.ensures ∙ no_product c.args.w.now c.args.c.now (refused_right c.args.w.now c.args.c.now _ _ c.den-2.result c.requires (seen _ _ c.num-2.ensures h) (seen _ _ c.den-2.ensures k) c.den-2.ensures k (sym c.in_err-right.was ∙ c.new-2.ensures))

pub returns-in_err-product : goal.returns-in_err-product
returns-in_err-product c = let f : FitsSigned w128 c.num.result = search rules in let g : FitsSigned w128 c.den.result = search rules in let h : FitsSigned w128 c.num-2.result = search rules in let k : FitsSigned w128 c.den-2.result = search rules in c.from_residual-in_err-product.ensures ∙ no_product c.args.w.now c.args.c.now (refused c.args.w.now c.args.c.now _ _ (crossed_some c.args.w.now c.args.c.now _ _ _ (seen _ _ c.num.ensures f) (seen _ _ c.den.ensures g) (sym c.in_ok-left.was ∙ c.new.ensures)) (crossed_some c.args.c.now c.args.w.now _ _ _ (seen _ _ c.num-2.ensures h) (seen _ _ c.den-2.ensures k) (sym c.in_ok-right.was ∙ c.new-2.ensures)) (sym c.in_err-product.was ∙ c.mul.ensures))

pub returns-then-fits : goal.returns-then-fits
returns-then-fits c = let f : FitsSigned w128 c.num.result = search rules in let g : FitsSigned w128 c.den.result = search rules in let h : FitsSigned w128 c.num-2.result = search rules in let k : FitsSigned w128 c.den-2.result = search rules in the_product_found c.args.w.now c.args.c.now _ (made c.args.w.now c.args.c.now _ _ _ (crossed_some c.args.w.now c.args.c.now _ _ _ (seen _ _ c.num.ensures f) (seen _ _ c.den.ensures g) (sym c.in_ok-left.was ∙ c.new.ensures)) (crossed_some c.args.c.now c.args.w.now _ _ _ (seen _ _ c.num-2.ensures h) (seen _ _ c.den-2.ensures k) (sym c.in_ok-right.was ∙ c.new-2.ensures)) (sym c.in_ok-product.was ∙ c.mul.ensures)) (sym c.fits.ensures ∙ c.if-fits.true)

pub returns-else-fits : goal.returns-else-fits
returns-else-fits c = let f : FitsSigned w128 c.num.result = search rules in let g : FitsSigned w128 c.den.result = search rules in let h : FitsSigned w128 c.num-2.result = search rules in let k : FitsSigned w128 c.den-2.result = search rules in the_product_large c.args.w.now c.args.c.now _ (made c.args.w.now c.args.c.now _ _ _ (crossed_some c.args.w.now c.args.c.now _ _ _ (seen _ _ c.num.ensures f) (seen _ _ c.den.ensures g) (sym c.in_ok-left.was ∙ c.new.ensures)) (crossed_some c.args.c.now c.args.w.now _ _ _ (seen _ _ c.num-2.ensures h) (seen _ _ c.den-2.ensures k) (sym c.in_ok-right.was ∙ c.new-2.ensures)) (sym c.in_ok-product.was ∙ c.mul.ensures)) (sym c.fits.ensures ∙ c.if-fits.false)
