use Rattle.heyvl_syntax.specs.Statements.{arms, block}
use Rattle.heyvl_types.proofs.bindings.+ranking.Given as goal
use Rattle.static_rules.specs.StatementRules.{arms_are_rankable, block_is_rankable}
use Rattle.std.proofs.Common.{drop, ◌≡◌}

abbrev pub invariant-block_is_rankable-loop-one : goal.invariant-block_is_rankable-loop-one
invariant-block_is_rankable-loop-one l = block_is_rankable (block l.statements) ≡ block_is_rankable (block (drop l.one-index l.statements))

abbrev pub invariant-arms_are_rankable-loop-arm : goal.invariant-arms_are_rankable-loop-arm
invariant-arms_are_rankable-loop-arm l = arms_are_rankable (arms l.all) ≡ arms_are_rankable (arms (drop l.arm-index l.all))
