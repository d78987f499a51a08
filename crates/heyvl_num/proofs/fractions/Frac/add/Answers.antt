use Rattle.std.proofs.Common.{◌∙◌, sym}
use Rattle.heyvl_num.proofs.ExactParts.{sum_refuses_left, sum_refuses_right, sum_refuses_den, sum_refuses_num, sum_made}
use Rattle.heyvl_num.proofs.fractions.Frac.add.Goals as goal

pub returns-in_err-left : goal.returns-in_err-left
returns-in_err-left c = c.from_residual.ensures ∙ sym (sum_refuses_left _ _ c.in_err-left.ensures)

pub returns-in_err-right : goal.returns-in_err-right
returns-in_err-right c = c.from_residual-in_err-right.ensures ∙ sym (sum_refuses_right c.args.self.now c.args.other.now c.in_err-right.ensures)

pub returns-in_err-den : goal.returns-in_err-den
returns-in_err-den c = c.from_residual-in_err-den.ensures ∙ sym (sum_refuses_den c.args.self.now c.args.other.now c.in_err-den.ensures)

pub returns-in_err-num : goal.returns-in_err-num
returns-in_err-num c = c.from_residual-in_err-num.ensures ∙ sym (sum_refuses_num c.args.self.now c.args.other.now _ _ c.in_ok-left.ensures c.in_ok-right.ensures c.in_err-num.ensures)

pub returns : goal.returns
returns c = sum_made c.args.self.now c.args.other.now _ _ _ _ _ c.in_ok-left.ensures c.in_ok-right.ensures c.in_ok-den.ensures c.in_ok-num.ensures c.reduced.ensures
