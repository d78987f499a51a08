-- For the proofs of other crates: sums and products of fractions below 2^62 are exact.
pub use Rattle.linear_rows.proofs.Narrow.{den_less, num_less, same, small, the_sum, the_zero, fits_negated, minus_one_times, seen, minus_one_fits, the_one, the_product, negative_plain, negative_strict, zero_test, the_minus_one, product_less, product_fits_narrow}
