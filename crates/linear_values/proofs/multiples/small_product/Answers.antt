use Rattle.std.proofs.Common.{sym, ap, ◌∙◌, cond}
use Rattle.std.specs.Prelude.{Some, None}
use Rattle.linear_rows.specs.Numbers.{fits}
use Rattle.linear_values.proofs.WholeFractions.{one_product, product_one}
use Rattle.linear_values.proofs.multiples.small_product.Goals as goal

pub returns-then-is_one : goal.returns-then-is_one
returns-then-is_one c = one_product c.args.w.now c.args.c.now (c.is_one.ensures c.if-is_one.true) c.requires

pub returns-then-is_one-2 : goal.returns-then-is_one-2
returns-then-is_one-2 c = product_one c.args.w.now c.args.c.now (c.is_one-then-fits.ensures c.if-is_one-2.true) (sym c.fits.ensures ∙ c.if-fits.true)

pub returns-else-is_one-2 : goal.returns-else-is_one-2
returns-else-is_one-2 c = c.fitting.ensures ∙ ap (λ p. cond (fits p) (Some p) None) c.product.ensures
