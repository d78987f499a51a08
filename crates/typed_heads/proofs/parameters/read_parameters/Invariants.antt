use Rattle.heyvl_acts.specs.PlainActs.{variable_of}
use Rattle.typed_heads.proofs.ParameterSteps.{Reads}
use Rattle.typed_heads.proofs.parameters.read_parameters.Given as goal
use Rattle.std.proofs.Common.{map}

abbrev pub invariant-loop-param : goal.invariant-loop-param
invariant-loop-param l = Reads l.params l.first l.fn.scope (map variable_of l.fn.vars.items) l.param-index l.next l.scope (map variable_of l.vars.items)
