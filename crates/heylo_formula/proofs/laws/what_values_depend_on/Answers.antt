use Rattle.heylo_formula.proofs.Dependence.{unfree, unfree_in, unchosen, unchosen_in}
use Rattle.heylo_formula.proofs.laws.what_values_depend_on.Goals as goal

pub returns : goal.returns
returns c = record { variables = unfree; variables_of_truth = unfree_in; choices = unchosen; choices_of_truth = unchosen_in }
