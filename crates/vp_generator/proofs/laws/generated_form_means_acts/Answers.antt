use Rattle.vp_generator.proofs.GeneratedValues.{generated_value}
use Rattle.vp_generator.proofs.GeneratedTypes.{generated_type}
use Rattle.vp_generator.proofs.GeneratedOver.{over_acts}
use Rattle.vp_generator.proofs.GeneratedNames.{named_acts}
use Rattle.vp_generator.proofs.laws.generated_form_means_acts.Goals as goal

pub returns : goal.returns
returns c = record { value = generated_value; typed = generated_type; over = over_acts; named = named_acts }
