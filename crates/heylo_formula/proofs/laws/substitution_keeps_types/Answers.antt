use Rattle.heylo_formula.proofs.SubstitutionTypes.{subst_fits, subst_formula, subst_well_typed}
use Rattle.heylo_formula.proofs.laws.substitution_keeps_types.Goals as goal

pub returns : goal.returns
returns c = record { types = subst_fits; formulas = subst_formula; conditions = subst_well_typed }
