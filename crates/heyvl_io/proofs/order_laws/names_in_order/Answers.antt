use Rattle.heyvl_io.proofs.StartOrder.{order_after-next, order_after-other}
use Rattle.heyvl_io.proofs.order_laws.names_in_order.Goals as goal

pub returns-clause-next : goal.returns-clause-next
returns-clause-next c = order_after-next

pub returns-clause-other : goal.returns-clause-other
returns-clause-other c = order_after-other
