use Rattle.std.proofs.Common.{length, ◌≡◌}
use Rattle.typed_expressions.proofs.names.any_twice.Given as goal
use Rattle.typed_expressions.specs.Names.{any_twice}

abbrev pub invariant-loop-name : goal.invariant-loop-name
invariant-loop-name l = any_twice l.names ≡ any_twice l.rest

abbrev pub decreases-loop-name : goal.decreases-loop-name
decreases-loop-name l = length l.rest
