use Rattle.std.proofs.Common.{drop, ◌≡◌}
use Rattle.typed_expressions.proofs.names.any_unknown.Given as goal
use Rattle.typed_expressions.specs.Scopes.{any_unknown}

abbrev pub invariant-loop-name : goal.invariant-loop-name
invariant-loop-name l = any_unknown l.scope l.names ≡ any_unknown l.scope (drop l.name-index l.names)
