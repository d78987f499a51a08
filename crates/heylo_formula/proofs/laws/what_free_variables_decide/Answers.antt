use Rattle.heylo_formula.proofs.exported.Agreement.{same_on, same_on_in, same_types, same_truth}
use Rattle.heylo_formula.proofs.laws.what_free_variables_decide.Goals as goal

pub returns : goal.returns
returns c = record { value = same_on; truth = same_on_in; types = same_types; conditions = same_truth }
