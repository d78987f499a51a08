use Rattle.std.proofs.Common.{sym, ◌∙◌, ap}
use Rattle.linear_form.specs.internal.Run.Evaluation.{value}
use Rattle.linear_form.proofs.Runs.{run_done}
use Rattle.linear_form.proofs.operators.scale.Goals as goal

pub returns-in-None : goal.returns-in-None
returns-in-None c = λ ps. rw c.in-None.is (run_done ps _ _ ∙ ap (λ v. value v c.args.at) (sym c.infinite_multiple.ensures))
