use Rattle.std.proofs.Common.{◌≡◌, ◌++◌, drop}
use Rattle.loop_encodings.specs.internal.Ready.{plain_variables}
use Rattle.loop_encodings.proofs.variables.add_variables.Given as goal

-- The variables so far and those that are left make the whole list.
abbrev pub invariant-loop-variable : goal.invariant-loop-variable
invariant-loop-variable l = plain_variables l.vars.items ++ plain_variables (drop l.variable-index l.all) ≡ plain_variables l.initial.vars.items ++ plain_variables l.all
