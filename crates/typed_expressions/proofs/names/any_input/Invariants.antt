use Rattle.std.proofs.Common.{drop, ◌≡◌}
use Rattle.typed_expressions.proofs.names.any_input.Given as goal
use Rattle.typed_expressions.specs.Scopes.{any_input}

abbrev pub invariant-loop-name : goal.invariant-loop-name
invariant-loop-name l = any_input l.inputs l.scope l.names ≡ any_input l.inputs l.scope (drop l.name-index l.names)
