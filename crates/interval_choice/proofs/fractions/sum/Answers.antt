use Rattle.std.proofs.Common.{◌≡◌, sym, ◌∙◌, rules}
use Rattle.std.specs.Prelude.{Some}
use Rattle.heyvl_num.specs.Rational.{◌+ʳ◌}
use Rattle.linear_rows.proofs.exported.Narrow.{the_sum, same}
use Rattle.interval_choice.proofs.fractions.sum.Goals as goal

pub unwrap-requires : goal.unwrap-requires
unwrap-requires c = let e : c.add.result ≡ Some (c.args.x.now +ʳ c.args.y.now) = c.add.ensures ∙ the_sum c.args.x.now c.args.y.now c.requires.left c.requires.right in rw e (search rules)

pub returns : goal.returns
returns c = same c.unwrap.result _ (sym c.unwrap.ensures ∙ c.add.ensures ∙ the_sum c.args.x.now c.args.y.now c.requires.left c.requires.right)
