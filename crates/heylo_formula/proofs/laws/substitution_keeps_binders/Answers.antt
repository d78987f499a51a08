use Rattle.heylo_formula.proofs.SubstitutionBinders.{subst_binders, subst_directions}
use Rattle.heylo_formula.proofs.laws.substitution_keeps_binders.Goals as goal

pub returns : goal.returns
returns c = record { binders = subst_binders; directions = subst_directions }
