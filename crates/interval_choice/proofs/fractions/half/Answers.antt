use Rattle.std.proofs.Common.{◌≡◌, sym, ◌∙◌, rules}
use Rattle.std.specs.Prelude.{Some}
use Rattle.heyvl_num.specs.Rational.{halfʳ}
use Rattle.linear_rows.proofs.exported.Narrow.{same}
use Rattle.interval_choice.proofs.Middles.{the_half}
use Rattle.interval_choice.proofs.fractions.half.Goals as goal

pub unwrap-requires : goal.unwrap-requires
unwrap-requires c = let e : c.new.result ≡ Some halfʳ = c.new.ensures ∙ the_half in rw e (search rules)

pub returns : goal.returns
returns c = same c.unwrap.result halfʳ (sym c.unwrap.ensures ∙ c.new.ensures ∙ the_half)
