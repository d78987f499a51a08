use Rattle.std.proofs.Common.{◌≡◌, sym, ◌∙◌, refl, rules}
use Rattle.std.specs.Prelude.{Some, pos}
use Rattle.heyvl_num.specs.Rational.{Rational, oneʳ}
use Rattle.heyvl_num.specs.Exact.{exact_quotient, quotient_fits, quotient}
use Rattle.heyvl_num.proofs.fractions.Frac.one.Goals as goal

the_quotient : exact_quotient (pos 1) (pos 1) ≡ Some oneʳ
unfolding exact_quotient quotient_fits quotient oneʳ
the_quotient = refl

same : (x y : Rational) → Some x ≡ Some y → x ≡ y
same x y e = cc

pub unwrap-requires : goal.unwrap-requires
unwrap-requires c = let e : c.new.result ≡ Some oneʳ = c.new.ensures ∙ the_quotient in rw e (search rules)

pub returns : goal.returns
returns c = same c.unwrap.result oneʳ (sym c.unwrap.ensures ∙ c.new.ensures ∙ the_quotient)
