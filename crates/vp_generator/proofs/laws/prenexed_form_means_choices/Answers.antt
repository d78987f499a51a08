use Rattle.vp_generator.proofs.PrenexedValues.{given_value, found_value, chosen_typed}
use Rattle.vp_generator.proofs.PrenexedTypes.{unbound_formula}
use Rattle.vp_generator.proofs.PrenexedPlain.{unbound_plain}
use Rattle.vp_generator.proofs.laws.prenexed_form_means_choices.Goals as goal

pub returns : goal.returns
returns c = record { given = given_value; found = found_value; typed = chosen_typed; formula = unbound_formula; plain = unbound_plain }
