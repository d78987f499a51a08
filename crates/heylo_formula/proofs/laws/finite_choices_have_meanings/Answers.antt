use Rattle.heylo_formula.proofs.FiniteChoices.{has_meaning}
use Rattle.heylo_formula.proofs.laws.finite_choices_have_meanings.Goals as goal

pub returns : goal.returns
returns c = record { meanings = has_meaning }
