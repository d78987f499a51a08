use Rattle.heyvl_num.proofs.exported.Rows.{farkas}
use Rattle.heyvl_num.proofs.exported.Values.{semiring, ordered}
use Rattle.quant_algebra.proofs.laws.numbers_in_use.Goals as goal

pub returns : goal.returns
returns c = record {
  three_terms = λ p q r x x' y y' z z' a b c h k l. search ordered;
  flip = λ w p q x y. simp semiring;
  two_rows = λ a b c d k l x p q e n h g. search farkas;
  opposite_rows = λ a b c d x p q n h g. search farkas;
}
