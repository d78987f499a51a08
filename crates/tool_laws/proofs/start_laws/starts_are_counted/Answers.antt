use Rattle.tool_laws.proofs.StartLemmas.{counted}
use Rattle.tool_laws.proofs.start_laws.starts_are_counted.Goals as goal

pub returns : goal.returns
returns c = counted c.names_in_order.ensures.next
