use Rattle.std.proofs.Common.{drop, ◌≡◌}
use Rattle.typed_expressions.proofs.rules.told.Given as goal
use Rattle.typed_expressions.specs.Findings.{at}

-- The rules so far are not broken.
abbrev pub invariant-loop-number : goal.invariant-loop-number
invariant-loop-number l = at l.span l.rules ≡ at l.span (drop l.number-index l.rules)
