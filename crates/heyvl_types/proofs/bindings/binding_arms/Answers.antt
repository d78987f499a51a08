use Rattle.heyvl_syntax.proofs.exported.PlainTreesAre.{plain_statements}
use Rattle.heyvl_syntax.specs.Statements.{block}
use Rattle.heyvl_types.proofs.LastElement.{arms_any, binds_arm, free_step, last_passes, none_passes}
use Rattle.heyvl_types.proofs.bindings.binding_arms.Goals as goal
use Rattle.static_rules.specs.StatementRules.{block_binds}
use Rattle.std.proofs.Common.{ap, drop, sym, ◌∙◌}

pub returns-then-block_binds : goal.returns-then-block_binds
returns-then-block_binds c i =
    let b = ap (λ a. block_binds a.1) (plain_statements.guarded c.in-Some.last.now) ∙ (ap (λ r. block_binds (block r)) (sym c.deref.ensures.value) ∙ (sym c.block_binds.ensures ∙ c.if-block_binds.true)) in
    arms_any (drop i c.args.all.now) ∙ last_passes binds_arm _ _ c.in-Some.front.now c.in-Some.last.now i c.loop-last.invariant c.in-Some.ensures.cases b

pub loop-last-preserved : goal.loop-last-preserved
loop-last-preserved c =
    let b = ap (λ a. block_binds a.1) (plain_statements.guarded c.in-Some.last.now) ∙ (ap (λ r. block_binds (block r)) (sym c.deref.ensures.value) ∙ (sym c.block_binds.ensures ∙ c.if-block_binds.false)) in
    free_step binds_arm _ _ c.in-Some.front.now c.in-Some.last.now c.loop-last.invariant c.in-Some.ensures.cases.0 b

pub returns : goal.returns
returns c i = arms_any (drop i c.args.all.now) ∙ none_passes binds_arm _ _ i c.loop-last.invariant c.in_default.ensures.cases
