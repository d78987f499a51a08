use Rattle.std.proofs.Common.{rules}
use Rattle.typed_expressions.proofs.exported.PartAnswers.{second_broken}
use Rattle.typed_expressions.proofs.expressions.read_quantifier.Goals as goal

pub returns-then-not-allowed : goal.returns-then-not-allowed
returns-then-not-allowed c = rw (← c.in_ok-quantified.ensures) (second_broken c.args.span 12 23 _ _ c.in_ok-made.ensures.0 (search rules))
