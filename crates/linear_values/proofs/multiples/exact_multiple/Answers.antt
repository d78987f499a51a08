use Rattle.std.proofs.Common.{sym, ap, ◌∙◌}
use Rattle.std.specs.Prelude.{Some}
use Rattle.linear_rows.proofs.exported.Narrow.{the_product}
use Rattle.linear_values.proofs.multiples.exact_multiple.Goals as goal

pub returns-then-fits : goal.returns-then-fits
returns-then-fits c = ap Some c.product.ensures ∙ sym (the_product c.args.w.now c.args.c.now (sym c.fits.ensures ∙ c.if-fits.true) c.requires)
