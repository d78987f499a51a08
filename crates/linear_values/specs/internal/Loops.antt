-- The invariants of loops over terms.
use Rattle.std.specs.Prelude.{◌≡◌, ℕ, ℤ, List, ◌++◌, Bool, true}
use Rattle.heyvl_num.specs.Rational.{Rational, ratio, ◌*ʳ◌}
use Rattle.linear_rows.specs.TermResults.{are_narrow}
use Rattle.linear_values.specs.Tightening.{whole_terms}
use Rattle.linear_values.specs.WholeTimes.{AreWholeTimes}
use Rattle.linear_values.specs.Lin.{Terms, all_fit, times, merged, AreNormal}
use Rattle.linear_values.specs.Operator.{signed_terms}

pub record IsTimesSoFar (w : Rational) (terms made rest : Terms) : Type 0 where
  pub whole : times w terms ≡ made ++ times w rest
  pub fits : all_fit rest ≡ true

pub record IsMergedSoFar (downward : Bool) (us ts made left right : Terms) : Type 0 where
  pub whole : merged (signed_terms downward us) ts
      ≡ made ++ merged (signed_terms downward left) right
  pub normal : AreNormal left
  pub left_fits : all_fit left ≡ true
  pub right_fits : all_fit right ≡ true

pub record IsSmallSoFar (w : Rational) (terms made rest : Terms) : Type 0 where
  pub whole : times w terms ≡ made ++ times w rest
  pub fits : all_fit (times w terms) ≡ all_fit (times w rest)
  pub rest_fits : all_fit rest ≡ true

pub record IsRowSoFar (s : ℤ) (w : Rational) (terms : Terms) (made : List (ℕ × ℤ)) (rest : Terms)
    : Type 0 where
  pub whole : whole_terms (ratio s 1 *ʳ w) terms ≡ made ++ whole_terms (ratio s 1 *ʳ w) rest
  pub narrow : are_narrow (whole_terms (ratio s 1 *ʳ w) terms)
      ≡ are_narrow (whole_terms (ratio s 1 *ʳ w) rest)
  pub rest_fits : all_fit rest ≡ true
  pub rest_whole : AreWholeTimes w rest
