use Rattle.heyvl_num.proofs.Rationals.{ratio_same, ratio_equal_cross, ratio-+, ratio--, ratio-*, ratio-neg, ratio-≤, ratio-≤_out, ratio_parts}
use Rattle.heyvl_num.proofs.Signs.{compareʳ-is}
use Rattle.heyvl_num.proofs.laws.fractions_by_cross_products.Goals as goal

pub returns : goal.returns
returns c = record {
  equal = λ a c b d p q. (ratio_equal_cross a b c d p q, ratio_same a b c d p q);
  added = λ a c b d p q. ratio-+ a b c d p q;
  subtracted = λ a c b d p q. ratio-- a b c d p q;
  multiplied = λ a c b d p q. ratio-* a b c d p q;
  negated = λ a b p. ratio-neg a b p;
  ordered = λ a c b d p q. (ratio-≤_out a b c d p q, ratio-≤ a b c d p q);
  compared = compareʳ-is;
  parts = ratio_parts;
}
