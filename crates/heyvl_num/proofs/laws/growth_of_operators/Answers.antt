use Rattle.heyvl_num.proofs.exported.Operators.{min_mono, max_mono, implies_mono, coimplies_up, coimplies_from}
use Rattle.heyvl_num.proofs.laws.growth_of_operators.Goals as goal

pub returns : goal.returns
returns c = record { minimum = min_mono; maximum = max_mono; implication = implies_mono; coimplication = coimplies_up; nonnegative = coimplies_from }
