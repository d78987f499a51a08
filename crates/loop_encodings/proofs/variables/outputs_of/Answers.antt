use Rattle.loop_encodings.proofs.OwnVariables.{output_part}
use Rattle.loop_encodings.proofs.variables.outputs_of.Goals as goal

pub returns : goal.returns
returns c = output_part c.args.procedure.now.inputs c.args.procedure.now.outputs _ _ c.deref.ensures.value
