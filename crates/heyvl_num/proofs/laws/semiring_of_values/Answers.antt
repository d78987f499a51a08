use Rattle.heyvl_num.proofs.Values.{+ᵛ_assoc, +ᵛ_comm, zero-+ᵛ, *ᵛ_assoc, *ᵛ_comm, one-*ᵛ, zero-*ᵛ, +ᵛ-infinite, scale-+ᵛ, *ᵛ-+ᵛ, half-half}
use Rattle.heyvl_num.proofs.laws.semiring_of_values.Goals as goal

pub returns : goal.returns
returns c = record {
  sum_associative = +ᵛ_assoc;
  sum_commutative = +ᵛ_comm;
  zero = zero-+ᵛ;
  product_associative = *ᵛ_assoc;
  product_commutative = *ᵛ_comm;
  one = one-*ᵛ;
  zero_factor = zero-*ᵛ;
  infinity = +ᵛ-infinite;
  weights = scale-+ᵛ;
  distributive = *ᵛ-+ᵛ;
  halves = half-half;
}
