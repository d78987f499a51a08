use Rattle.std.proofs.Common.{◌≡◌, ◌++◌, drop, map}
use Rattle.heyvl_acts.specs.PlainActs.{variable_of}
use Rattle.made_goals.proofs.copies.copied.Given as goal

abbrev pub invariant-loop-variable : goal.invariant-loop-variable
invariant-loop-variable l = map variable_of l.vars.items ++ map variable_of (drop l.variable-index l.all) ≡ map variable_of l.all
