use Rattle.lower_texts.proofs.FirstScopes.{scope_found, scope_past}
use Rattle.lower_texts.proofs.scopes.scope_among.Goals as goal
use Rattle.std.proofs.Common.{◌∙◌}

pub returns-in-Some : goal.returns-in-Some
returns-in-Some c = scope_found _ c.loop-act.act-index c.act-item.result _ c.loop-act-test.true c.act-item.is c.in-Some.ensures ∙ c.loop-act.invariant

pub loop-act-preserved : goal.loop-act-preserved
loop-act-preserved c = scope_past _ c.loop-act.act-index c.act-item.result c.loop-act-test.true c.act-item.is c.in_default.ensures ∙ c.loop-act.invariant
