use Rattle.made_goals.proofs.upper_goals.types_of.Given as goal
use Rattle.vp_generator.specs.PrenexedGoals.{types_of_variables}
use Rattle.std.proofs.Common.{take, ◌≡◌}

abbrev pub invariant-loop-var : goal.invariant-loop-var
invariant-loop-var l = l.types.items ≡ types_of_variables (take l.var-index l.vars)
