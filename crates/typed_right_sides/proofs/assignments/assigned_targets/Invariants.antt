use Rattle.typed_right_sides.proofs.assignments.assigned_targets.Given as goal
use Rattle.static_rules.specs.StatementActs.{targets}
use Rattle.std.proofs.Common.{take, ◌≡◌}
use Rattle.typed_expressions.specs.Scopes.{types_of_names}

abbrev pub invariant-loop-name : goal.invariant-loop-name
invariant-loop-name l = record {
  types : l.types.items ≡ types_of_names l.scope (take l.name-index l.names);
  numbers : l.numbers.items ≡ targets l.scope (take l.name-index l.names);
}
