use Rattle.typed_heads.proofs.ParameterSteps.{in_range}
use Rattle.typed_heads.proofs.parameters.read_parameters.Goals as goal

pub read_parameter-requires : goal.read_parameter-requires
read_parameter-requires c = in_range c.args.params.now c.args.first _ _ c.loop-param.param-index c.loop-param.next _ _ c.loop-param.invariant c.loop-param-test.true c.requires
