use Rattle.lower_goals.proofs.InputBounds.{inputs_are}
use Rattle.lower_goals.proofs.input_bounds.inputs_of.Goals as goal

pub returns : goal.returns
returns c = inputs_are c.args.procedure.now.inputs _ _ c.deref.ensures.value
