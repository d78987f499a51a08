use Rattle.std.proofs.Common.{◌≡◌, sym, ◌∙◌, rules}
use Rattle.std.specs.Prelude.{Some}
use Rattle.heyvl_num.specs.Rational.{◌*ʳ◌}
use Rattle.linear_rows.proofs.exported.Narrow.{the_product, same}
use Rattle.linear_values.proofs.numbers.any_product.Goals as goal

pub unwrap-requires : goal.unwrap-requires
unwrap-requires c = let e : c.mul.result ≡ Some (c.args.x.now *ʳ c.args.y.now) = c.mul.ensures ∙ the_product c.args.x.now c.args.y.now c.requires.left c.requires.right in rw e (search rules)

pub returns : goal.returns
returns c = same c.unwrap.result _ (sym c.unwrap.ensures ∙ c.mul.ensures ∙ the_product c.args.x.now c.args.y.now c.requires.left c.requires.right)
