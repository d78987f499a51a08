use Rattle.std.proofs.Common.{◌∙◌, sym}
use Rattle.heyvl_num.proofs.ExactParts.{order_refuses_left, order_refuses_right, order_made}
use Rattle.heyvl_num.proofs.fractions.Frac.compare.Goals as goal

pub returns-in_err-here : goal.returns-in_err-here
returns-in_err-here c = c.from_residual.ensures ∙ sym (order_refuses_left c.args.self.now c.args.other.now c.in_err-here.ensures)

pub returns-in_err-there : goal.returns-in_err-there
returns-in_err-there c = c.from_residual-in_err-there.ensures ∙ sym (order_refuses_right c.args.self.now c.args.other.now c.in_err-there.ensures)

pub returns : goal.returns
returns c = order_made c.args.self.now c.args.other.now _ _ _ c.in_ok-here.ensures c.in_ok-there.ensures c.cmp.ensures
