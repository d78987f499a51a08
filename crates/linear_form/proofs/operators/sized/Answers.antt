use Rattle.std.proofs.Common.{sym, ◌∙◌}
use Rattle.linear_form.proofs.OperatorRuns.{run_sized, run_large}
use Rattle.linear_form.proofs.operators.sized.Goals as goal

pub returns-then-is_sized : goal.returns-then-is_sized
returns-then-is_sized c = λ ps. run_sized ps _ _ (sym c.is_sized.ensures ∙ c.if-is_sized.true)

pub returns-else-is_sized : goal.returns-else-is_sized
returns-else-is_sized c = λ ps. run_large ps _ _ (sym c.is_sized.ensures ∙ c.if-is_sized.false)
