use Rattle.std.proofs.Common.{◌≡◌, ◌++◌, drop}
use Rattle.heyvl_acts.specs.ModifiedVariables.{modified}
use Rattle.heyvl_acts.specs.PlainActs.{acts_of}
use Rattle.proc_contracts.proofs.modified_variables.modified.Given as goal

-- The variables found so far and the modified ones among the rest of the scope are all modified
-- ones.
abbrev pub invariant-loop-x : goal.invariant-loop-x
invariant-loop-x l = l.found.items ++ modified (drop l.x-index l.one.scope.items) (acts_of l.one.body.items) ≡ modified l.one.scope.items (acts_of l.one.body.items)
