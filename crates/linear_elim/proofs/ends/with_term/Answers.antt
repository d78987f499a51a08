use Rattle.std.proofs.Common.{rules, ap, sym, ◌∙◌, FitsSigned}
use Rattle.std.proofs.lemmas.Int.{to_z-of_z}
use mir.Syntax.{w64}
use Rattle.heyvl_num.specs.Rounding.{whole}
use Rattle.heyvl_num.specs.Exact.{exact_product}
use Rattle.linear_elim.proofs.EndRuns.{product_none, product_some}
use Rattle.linear_elim.proofs.ends.with_term.Goals as goal

pub returns-in_err-product : goal.returns-in_err-product
returns-in_err-product c =
    let f : FitsSigned w64 c.args.c = search rules in
    c.from_residual.ensures ∙ product_none c.args.sum.now _ _ (sym (c.mul.ensures ∙ ap (λ a. exact_product a c.args.value.now) (c.whole_of.ensures ∙ ap whole (to_z-of_z w64 c.args.c f))) ∙ c.in_err-product.was)

pub returns : goal.returns
returns c =
    let f : FitsSigned w64 c.args.c = search rules in
    product_some c.args.sum.now _ _ _ _ (sym (c.mul.ensures ∙ ap (λ a. exact_product a c.args.value.now) (c.whole_of.ensures ∙ ap whole (to_z-of_z w64 c.args.c f))) ∙ c.in_ok-product.was) c.add.ensures
