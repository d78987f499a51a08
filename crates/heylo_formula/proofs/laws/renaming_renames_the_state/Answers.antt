use Rattle.heylo_formula.proofs.RenamedValues.{renamed_value, renamed_value_in}
use Rattle.heylo_formula.proofs.laws.renaming_renames_the_state.Goals as goal

pub returns : goal.returns
returns c = record { value = renamed_value; truth = renamed_value_in }
