use Rattle.heyvl_num.proofs.Rationals.{+ʳ_assoc, +ʳ_comm, zero-+ʳ, *ʳ_assoc, *ʳ_comm, one-*ʳ, *ʳ-+ʳ}
use Rattle.heyvl_num.proofs.Signs.{+ʳ-neg, negʳ-neg, negʳ-*ʳ, negʳ-+ʳ, -ʳ-+ʳ, half-half}
use Rattle.heyvl_num.proofs.laws.ring_of_fractions.Goals as goal

pub returns : goal.returns
returns c = record {
  sum_associative = +ʳ_assoc;
  sum_commutative = +ʳ_comm;
  zero = zero-+ʳ;
  negation = +ʳ-neg;
  product_associative = *ʳ_assoc;
  product_commutative = *ʳ_comm;
  one = one-*ʳ;
  distributive = *ʳ-+ʳ;
  twice_negated = negʳ-neg;
  negated_factor = negʳ-*ʳ;
  negated_sum = negʳ-+ʳ;
  difference = -ʳ-+ʳ;
  halves = half-half;
}
