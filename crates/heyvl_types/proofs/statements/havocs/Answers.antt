use Rattle.heyvl_types.proofs.Havocs.{havoc_all, havoc_more}
use Rattle.heyvl_types.proofs.statements.havocs.Goals as goal

pub loop-name-preserved : goal.loop-name-preserved
loop-name-preserved c = rw c.in_ok-push.ensures.items (havoc_more c.args.scope.now c.args.co c.args.span c.args.names.now c.loop-name.name-index c.name-item.result c.loop-name.acts.items c.arbitrary.result c.loop-name.invariant c.loop-name-test.true c.name-item.is c.arbitrary.ensures)

pub returns : goal.returns
returns c = havoc_all c.args.scope.now c.args.co c.args.span c.args.names.now c.loop-name.name-index c.loop-name.acts.items c.loop-name.invariant c.loop-name-test.false
