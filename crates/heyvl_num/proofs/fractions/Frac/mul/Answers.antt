use Rattle.std.proofs.Common.{◌∙◌, sym}
use Rattle.heyvl_num.proofs.ExactParts.{product_refuses_num, product_refuses_den, product_made}
use Rattle.heyvl_num.proofs.fractions.Frac.mul.Goals as goal

pub returns-in_err-num : goal.returns-in_err-num
returns-in_err-num c = c.from_residual.ensures ∙ sym (product_refuses_num c.args.self.now c.args.other.now c.in_err-num.ensures)

pub returns-in_err-den : goal.returns-in_err-den
returns-in_err-den c = c.from_residual-in_err-den.ensures ∙ sym (product_refuses_den c.args.self.now c.args.other.now c.in_err-den.ensures)

pub returns : goal.returns
returns c = product_made c.args.self.now c.args.other.now _ _ _ c.in_ok-num.ensures c.in_ok-den.ensures c.reduced.ensures
