use Rattle.made_goals.proofs.upper_goals.names_of.Given as goal
use Rattle.vp_generator.specs.PrenexedGoals.{names_of_variables}
use Rattle.std.proofs.Common.{take, ◌≡◌}

abbrev pub invariant-loop-var : goal.invariant-loop-var
invariant-loop-var l = l.names.items ≡ names_of_variables (take l.var-index l.vars)
