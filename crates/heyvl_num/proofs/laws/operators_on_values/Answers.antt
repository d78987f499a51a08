use Rattle.heyvl_num.proofs.ValueOperators.{min_adjoint, max_adjoint, implies_adjoint, coimplies_adjoint, monus_adjoint}
use Rattle.heyvl_num.proofs.laws.operators_on_values.Goals as goal

pub returns : goal.returns
returns c = record {
  minimum = min_adjoint;
  maximum = max_adjoint;
  implication = implies_adjoint;
  coimplication = coimplies_adjoint;
  difference = monus_adjoint;
}
