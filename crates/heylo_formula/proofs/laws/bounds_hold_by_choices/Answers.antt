use Rattle.heylo_formula.proofs.BoundedChoices.{binder_free_means, bounds_by_choices}
use Rattle.heylo_formula.proofs.OneMeaning.{one_meaning}
use Rattle.heylo_formula.proofs.SubstitutionBinders.{binder_free_directed}
use Rattle.heylo_formula.proofs.laws.bounds_hold_by_choices.Goals as goal

pub returns : goal.returns
returns c = record {
  one = one_meaning;
  binder_free = binder_free_means;
  bounds = bounds_by_choices;
  unbound = binder_free_directed;
}
