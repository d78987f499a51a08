use Rattle.std.proofs.Common.{◌≡◌, sym, ap₂, ◌∙◌, rules}
use Rattle.std.specs.Prelude.{Some}
use Rattle.heyvl_num.specs.Rational.{middleʳ}
use Rattle.heyvl_num.specs.Exact.{exact_product}
use Rattle.linear_rows.proofs.exported.Narrow.{same}
use Rattle.interval_choice.proofs.Middles.{the_middle}
use Rattle.interval_choice.proofs.fractions.middle.Goals as goal

pub unwrap-requires : goal.unwrap-requires
unwrap-requires c = let e : c.mul.result ≡ Some (middleʳ c.args.x.now c.args.y.now) = c.mul.ensures ∙ ap₂ exact_product c.half.ensures c.sum.ensures ∙ the_middle c.args.x.now c.args.y.now c.requires.left c.requires.right in rw e (search rules)

pub returns : goal.returns
returns c = same c.unwrap.result _ (sym c.unwrap.ensures ∙ c.mul.ensures ∙ ap₂ exact_product c.half.ensures c.sum.ensures ∙ the_middle c.args.x.now c.args.y.now c.requires.left c.requires.right)
