use Rattle.verify_core.proofs.TossProducts.{toss_products_are_linear}
use Rattle.verify_core.proofs.laws.toss_products_are_linear.Goals as goal

pub returns : goal.returns
returns c = toss_products_are_linear
