use Rattle.linear_form.proofs.ReadyParts.{two_over}
use Rattle.linear_form.proofs.ready_parts.over.Goals as goal

pub returns-in-Ok : goal.returns-in-Ok
returns-in-Ok c = two_over c.args.work.now c.in-Two.operation c.in-Two.first c.in-Two.field-2 c.deref.result.now c.args.part.now c.in_ok-unsure-in-Ok.field-0.value c.in-Ok.outcome c.in-Two.is c.deref.ensures c.in-Ok.ensures c.in_ok-unsure-in-Ok.ensures
