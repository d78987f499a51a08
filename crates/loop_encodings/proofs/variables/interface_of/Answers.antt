use Rattle.loop_encodings.proofs.OwnVariables.{interface_parts}
use Rattle.loop_encodings.proofs.variables.interface_of.Goals as goal

pub returns : goal.returns
returns c = interface_parts c.args.procedure.now.inputs c.args.procedure.now.outputs _ _ c.deref.ensures.value
