use Rattle.std.proofs.Common.{subst}
use Rattle.linear_form.specs.PlainPaths.{path_of}
use Rattle.linear_form.specs.Questions as q
use Rattle.linear_form.specs.internal.Run.{along}
use Rattle.linear_form.specs.internal.EvaluationResults.{Gives}
use Rattle.linear_form.proofs.operators.infinite_product.Goals as goal

pub returns : goal.returns
returns c = subst (λ a. Gives c.zero_or_infinity.result (along (path_of c.args.path.now) (q.infinite_product a) c.args.at)) c.in_ok-factor.ensures c.zero_or_infinity.ensures
