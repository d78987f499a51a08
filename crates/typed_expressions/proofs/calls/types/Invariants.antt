use Rattle.std.proofs.Common.{map, take, ◌≡◌}
use Rattle.typed_expressions.proofs.calls.types.Given as goal

abbrev pub invariant-loop-param : goal.invariant-loop-param
invariant-loop-param l = l.all.items ≡ map (λ param. param.ty) (take l.param-index l.params)
