use Rattle.linear_elim.proofs.Numbers.{positive_wide}
use Rattle.linear_elim.proofs.joins.product.Goals as goal

pub returns-clause-positive : goal.returns-clause-positive
returns-clause-positive c = λ h k. positive_wide c.args.a c.args.b c.requires.left_narrow c.requires.right_narrow h k
