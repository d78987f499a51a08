use Rattle.std.proofs.Common.{◌≡◌, sym, ◌∙◌, rules}
use Rattle.std.specs.Prelude.{Some}
use Rattle.linear_rows.specs.Numbers.{minus_oneʳ}
use Rattle.linear_rows.proofs.exported.Narrow.{the_minus_one, same}
use Rattle.linear_values.proofs.numbers.minus_one.Goals as goal

pub unwrap-requires : goal.unwrap-requires
unwrap-requires c = let e : c.new.result ≡ Some minus_oneʳ = c.new.ensures ∙ the_minus_one in rw e (search rules)

pub returns : goal.returns
returns c = same c.unwrap.result minus_oneʳ (sym c.unwrap.ensures ∙ c.new.ensures ∙ the_minus_one)
