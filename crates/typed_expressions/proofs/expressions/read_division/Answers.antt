use Rattle.std.proofs.Common.{rules}
use Rattle.typed_expressions.proofs.exported.PartAnswers.{second_broken}
use Rattle.typed_expressions.proofs.expressions.read_division.Goals as goal

pub returns-then-is_none : goal.returns-then-is_none
returns-then-is_none c = rw (← c.factor.ensures, ← c.in_ok-quotient.ensures) (second_broken c.args.span 12 16 _ _ c.in_ok-made.ensures.0 (search rules))
