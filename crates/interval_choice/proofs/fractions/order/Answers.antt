use Rattle.std.proofs.Common.{◌≡◌, sym, ◌∙◌, rules}
use Rattle.std.specs.Prelude.{Some}
use Rattle.heyvl_num.specs.Rational.{compareʳ}
use Rattle.interval_choice.proofs.BoundedFractions.{the_order}
use Rattle.interval_choice.proofs.fractions.order.Goals as goal

pub unwrap-requires : goal.unwrap-requires
unwrap-requires c = let e : c.compare.result ≡ Some (compareʳ c.args.x.now c.args.y.now) = c.compare.ensures ∙ the_order _ _ c.requires.left c.requires.left_den c.requires.right c.requires.right_den in rw e (search rules)

pub returns : goal.returns
returns c = let e : Some c.unwrap.result ≡ Some (compareʳ c.args.x.now c.args.y.now) = sym c.unwrap.ensures ∙ c.compare.ensures ∙ the_order _ _ c.requires.left c.requires.left_den c.requires.right c.requires.right_den in cc
