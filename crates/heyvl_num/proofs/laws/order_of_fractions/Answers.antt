use Rattle.heyvl_num.proofs.Rationals.{≤ʳ_refl, ≤ʳ_trans, ≤ʳ_antisym, ≤ʳ_total, +ʳ_mono, *ʳ_mono}
use Rattle.heyvl_num.proofs.Signs.{times_whole, difference_nonnegative, negʳ_mono, nonpositive-*ʳ, middle_above, middle_below}
use Rattle.heyvl_num.proofs.laws.order_of_fractions.Goals as goal

pub returns : goal.returns
returns c = record {
  reflexive = ≤ʳ_refl;
  transitive = ≤ʳ_trans;
  antisymmetric = ≤ʳ_antisym;
  total = ≤ʳ_total;
  sums = +ʳ_mono;
  products = *ʳ_mono;
  whole_factors = times_whole;
  differences = difference_nonnegative;
  negations = negʳ_mono;
  nonpositive_factors = nonpositive-*ʳ;
  dense = λ x y h. (middle_above x y h, middle_below x y h);
}
