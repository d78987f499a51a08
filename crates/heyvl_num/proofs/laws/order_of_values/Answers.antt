use Rattle.heyvl_num.proofs.Values.{≤ᵛ_refl, ≤ᵛ_trans, ≤ᵛ_antisym, ≤ᵛ_total, ≤ᵛ_infinite, +ᵛ_mono, scale_mono, *ᵛ_mono, finite_terms, compareᵛ-is}
use Rattle.heyvl_num.proofs.laws.order_of_values.Goals as goal

pub returns : goal.returns
returns c = record {
  reflexive = ≤ᵛ_refl;
  transitive = ≤ᵛ_trans;
  antisymmetric = ≤ᵛ_antisym;
  total = ≤ᵛ_total;
  infinity = ≤ᵛ_infinite;
  sums = +ᵛ_mono;
  weights = scale_mono;
  products = *ᵛ_mono;
  finite_terms = finite_terms;
  compared = compareᵛ-is;
}
