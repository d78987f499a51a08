use Rattle.std.proofs.Common.{map, ◌++◌, ◌≡◌}
use Rattle.typed_expressions.proofs.scopes.Scope.numbers.Given as goal
use Rattle.typed_expressions.specs.Scopes.{numbers}

abbrev pub invariant-loop-local : goal.invariant-loop-local
invariant-loop-local l = l.all.items ++ map (λ x. x.number) l.local-iterator ≡ numbers l.fn.self
