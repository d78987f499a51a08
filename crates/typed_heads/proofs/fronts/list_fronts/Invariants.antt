use Rattle.heyvl_acts.specs.PlainActs.{variable_of}
use Rattle.heyvl_syntax.specs.Expressions.{expressions}
use Rattle.typed_heads.proofs.fronts.list_fronts.Given as goal
use Rattle.std.proofs.Common.{drop, map, ◌++◌, ◌≡◌}
use Rattle.typed_expressions.specs.DeclaredVariables.{fronts_variables}

abbrev pub invariant-loop-e : goal.invariant-loop-e
invariant-loop-e l = map variable_of l.vars.items ++ fronts_variables (expressions (drop l.e-index l.all)) ≡ map variable_of l.fn.vars.items ++ fronts_variables (expressions l.all)
