-- For the proofs of other crates: when an exact operation has a result.
pub use Rattle.heyvl_num.proofs.Exactness.{exact_quotient_some, exact_sum_some, exact_difference_some, exact_product_some, exact_order_some, exact_sum_none, exact_difference_none, exact_product_none, exact_order_none, exact_sumᵛ_some, exact_productᵛ_some, exact_orderᵛ_some, order_less, order_equal, order_greater, order_at_most_less, order_at_most_equal, orderᵛ_less, orderᵛ_equal, orderᵛ_greater, orderᵛ_at_most_less, orderᵛ_at_most_equal, exact}
