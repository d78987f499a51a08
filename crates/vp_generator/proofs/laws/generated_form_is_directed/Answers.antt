use Rattle.vp_generator.proofs.Directions.{generated_directed, procedure_directed}
use Rattle.vp_generator.proofs.laws.generated_form_is_directed.Goals as goal

pub returns : goal.returns
returns c = record { acts = generated_directed; procedures = procedure_directed }
