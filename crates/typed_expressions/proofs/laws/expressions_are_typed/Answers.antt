use Rattle.typed_expressions.proofs.exported.TypedMeanings.{good}
use Rattle.typed_expressions.proofs.laws.expressions_are_typed.Goals as goal

pub returns : goal.returns
returns c = λ types n sc a e m i. let g = good types n sc a e m i in (g.typed, g.small)
