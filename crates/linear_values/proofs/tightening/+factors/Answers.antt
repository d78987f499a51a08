use Rattle.std.proofs.Common.{sym, ap, ◌∙◌, rules, FitsSigned, unsigned_abs, subst, ◌<◌, ◌^◌, ℤ}
use Rattle.std.specs.Int.{w128}
use Rattle.heyvl_num.specs.Rounding.{whole}
use Rattle.linear_rows.proofs.exported.Narrow.{seen, num_less}
use Rattle.linear_values.proofs.Products.{product_some}
use Rattle.linear_values.proofs.Factors.{only_factor, others_wide, first_wide, next_factor, none_left, some_left}
use Rattle.linear_values.proofs.tightening.+factors.Goals as goal

pub returns-then-is_empty : goal.returns-then-is_empty
returns-then-is_empty t c = let f : FitsSigned w128 c.sign.result = search rules in only_factor c.args.terms.now c.in-Some.rest.now c.in-Some.term.now c.quotient.result (search rules) (none_left _ _ c.is_empty.ensures c.if-is_empty.true) c.requires.normal (λ w e. c.quotient.ensures w (e ∙ sym (ap whole (seen _ _ c.sign.ensures f))))

pub returns-in-None-factor_of : goal.returns-in-None-factor_of
returns-in-None-factor_of t c = others_wide c.args.terms.now c.in-Some.rest.now c.in-Some.term.now (search rules) (some_left _ _ c.is_empty.ensures c.if-is_empty.false) c.requires.normal c.in-None-factor_of.ensures

pub returns-in-None-small_product : goal.returns-in-None-small_product
returns-in-None-small_product t c = first_wide c.args.terms.now c.in-Some.rest.now c.in-Some.term.now c.in-Some-factor_of.w (search rules) (some_left _ _ c.is_empty.ensures c.if-is_empty.false) c.requires.normal c.in-Some-factor_of.ensures c.in-None-small_product.ensures

pub quotient-requires-in-Some-small_product-clause-narrow : goal.quotient-requires-in-Some-small_product-clause-narrow
quotient-requires-in-Some-small_product-clause-narrow t c = let f : FitsSigned w128 c.num.result = search rules in let p = product_some c.in-Some-factor_of.w c.in-Some.term.now.1 c.in-Some-small_product.product c.in-Some-small_product.ensures in subst (λ (z : ℤ). unsigned_abs z < 2 ^ 62) (sym (seen _ _ (c.num.ensures ∙ ap (λ x. x.num) p.0) f)) (num_less _ p.1)

pub returns-in-Some-small_product : goal.returns-in-Some-small_product
returns-in-Some-small_product t c = let f : FitsSigned w128 c.num.result = search rules in next_factor c.args.terms.now c.in-Some.rest.now c.in-Some.term.now c.in-Some-factor_of.w c.in-Some-small_product.product c.quotient-in-Some-small_product.result (search rules) (some_left _ _ c.is_empty.ensures c.if-is_empty.false) c.requires.normal c.in-Some-factor_of.ensures c.in-Some-small_product.ensures (λ w e. c.quotient-in-Some-small_product.ensures w (e ∙ sym (ap whole (seen _ _ c.num.ensures f))))
