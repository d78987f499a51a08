use Rattle.heyvl_num.proofs.exported.WholeNumbers.{sum_whole, difference_whole, product_whole, negative_whole, zero_whole, one_whole, whole_sum, whole_product, whole_min, whole_max, whole_cut}
use Rattle.heyvl_num.proofs.laws.whole_numbers.Goals as goal

pub returns : goal.returns
returns c = record {
  sums = sum_whole;
  differences = difference_whole;
  products = product_whole;
  negatives = negative_whole;
  constants = (zero_whole, one_whole);
  values = λ x y h k. (whole_sum x y h k, (whole_product x y h k, (whole_min x y h k, (whole_max x y h k, whole_cut x y h k))));
}
