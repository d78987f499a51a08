use Rattle.std.proofs.Common.{sym, ◌∙◌, ap}
use Rattle.linear_values.specs.Lin.{all_fit, times, constant}
use Rattle.linear_values.specs.PlainValues.{lin_of}
use Rattle.linear_values.proofs.KeptParts.{rest_fits, terms_fit}
use Rattle.linear_values.proofs.Products.{zero_multiple, zero_multiple_sized, product_none, product_some, large_rest, large_terms, same_lin, small_parts}
use Rattle.linear_values.proofs.multiples.small_multiple.Goals as goal

pub returns-then-is_zero : goal.returns-then-is_zero
returns-then-is_zero c = (c.constant.ensures ∙ ap constant c.zero.ensures ∙ sym (zero_multiple c.args.w.now (lin_of c.args.a.now) (sym c.is_zero.ensures ∙ c.if-is_zero.true)), zero_multiple_sized c.args.w.now (lin_of c.args.a.now) (sym c.is_zero.ensures ∙ c.if-is_zero.true))

pub small_product-requires : goal.small_product-requires
small_product-requires c = rest_fits (lin_of c.args.a.now) c.requires

pub small_terms-requires : goal.small_terms-requires
small_terms-requires c = ap all_fit c.deref.ensures.value ∙ terms_fit (lin_of c.args.a.now) c.requires

pub returns-in-None : goal.returns-in-None
returns-in-None c = large_rest c.args.w.now (lin_of c.args.a.now) (sym c.is_zero.ensures ∙ c.if-is_zero.false) (product_none c.args.w.now c.args.a.now.rest (sym c.in-None.is ∙ c.small_product.ensures))

pub returns-in-None-2 : goal.returns-in-None-2
returns-in-None-2 c = large_terms c.args.w.now (lin_of c.args.a.now) (sym c.is_zero.ensures ∙ c.if-is_zero.false) (ap (λ ts. all_fit (times c.args.w.now ts)) (sym c.deref.ensures.value) ∙ (rw c.in-None-2.is at c.in_ok-small_terms-in-Some.ensures))

pub returns-in-Some-2 : goal.returns-in-Some-2
returns-in-Some-2 c =
    let m = rw c.in-Some-2.is at c.in_ok-small_terms-in-Some.ensures in
    let p = product_some c.args.w.now c.args.a.now.rest c.in-Some.rest (sym c.in-Some.is ∙ c.small_product.ensures) in
    (same_lin c.args.w.now (lin_of c.args.a.now) _ _ (sym c.is_zero.ensures ∙ c.if-is_zero.false) (m.0 ∙ ap (λ ts. times c.args.w.now ts) c.deref.ensures.value) p.0, small_parts c.args.w.now (lin_of c.args.a.now) (sym c.is_zero.ensures ∙ c.if-is_zero.false) p.1 (ap (λ ts. all_fit (times c.args.w.now ts)) (sym c.deref.ensures.value) ∙ m.1))
