use Rattle.std.proofs.Common.{sym, ◌∙◌, ap}
use Rattle.std.specs.Prelude.{Some}
use Rattle.linear_form.specs.internal.Run.Evaluation.{value}
use Rattle.linear_form.proofs.OperatorRuns.{run_sized, run_large}
use Rattle.linear_form.proofs.operators.finite_multiple.Goals as goal

pub returns-in-Some : goal.returns-in-Some
returns-in-Some c = λ ps. let m = rw c.in-Some.is at c.in_ok-total.ensures in run_sized ps _ c.args.at m.1 ∙ ap (λ l. value (Some l) c.args.at) (sym m.0)

pub returns-in-None : goal.returns-in-None
returns-in-None c = λ ps. run_large ps _ c.args.at (rw c.in-None.is at c.in_ok-total.ensures)
