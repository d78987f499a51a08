use Rattle.heyvl_types.proofs.LastElement.{binds_one, block_any, last_passes, none_passes}
use Rattle.heyvl_types.proofs.bindings.binding_statements.Goals as goal
use Rattle.std.proofs.Common.{drop, sym, ◌∙◌}

pub returns-then-binds : goal.returns-then-binds
returns-then-binds c i = block_any (drop i c.args.statements.now) ∙ last_passes binds_one _ _ c.in-Some.front.now c.in-Some.last.now i c.loop-last.invariant c.in-Some.ensures.cases (sym c.binds.ensures ∙ c.if-binds.true)

pub returns : goal.returns
returns c i = block_any (drop i c.args.statements.now) ∙ none_passes binds_one _ _ i c.loop-last.invariant c.in_default.ensures.cases
