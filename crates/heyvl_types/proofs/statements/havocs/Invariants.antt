use Rattle.heyvl_acts.specs.Acts.{join}
use Rattle.heyvl_acts.specs.PlainActs.{acts_of}
use Rattle.heyvl_types.proofs.statements.havocs.Given as goal
use Rattle.static_rules.specs.StatementActs.{havocs}
use Rattle.std.proofs.Common.{drop, ◌≡◌}

abbrev pub invariant-loop-name : goal.invariant-loop-name
invariant-loop-name l = havocs l.scope l.co l.names l.span ≡ join (acts_of l.acts.items) (havocs l.scope l.co (drop l.name-index l.names) l.span)
