use Rattle.heylo_formula.proofs.FreshNumbers.{fresh_is}
use Rattle.heylo_formula.proofs.SubstitutionValues.{subst_value, subst_value_in}
use Rattle.heylo_formula.proofs.laws.substitution_changes_the_state.Goals as goal

pub returns : goal.returns
returns c = record { value = subst_value; truth = subst_value_in; fresh = fresh_is }
