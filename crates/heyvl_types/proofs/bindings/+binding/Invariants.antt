use Rattle.heyvl_syntax.specs.Statements.{arms, block}
use Rattle.heyvl_types.proofs.bindings.+binding.Given as goal
use Rattle.static_rules.specs.StatementRules.{arms_bind, block_binds}
use Rattle.std.proofs.Common.{drop, ◌≡◌}

abbrev pub invariant-block_binds-loop-one : goal.invariant-block_binds-loop-one
invariant-block_binds-loop-one l = block_binds (block l.statements) ≡ block_binds (block (drop l.one-index l.statements))

abbrev pub invariant-arms_bind-loop-arm : goal.invariant-arms_bind-loop-arm
invariant-arms_bind-loop-arm l = arms_bind (arms l.all) ≡ arms_bind (arms (drop l.arm-index l.all))
