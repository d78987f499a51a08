-- For the proofs of other crates: the product of two fractions in lowest terms, whose factors are
-- reduced crosswise first.
pub use Rattle.linear_values.proofs.Products.{product_some}
