-- For the proofs of other crates: if a claim holds in a state, the state's values satisfy its row.
pub use Rattle.linear_values.proofs.TightRows.{taken_row, whole_den, whole-+, IsPositive, keeps_sign, positive_ratio, positive-*, factor_positive, factor_whole, value_scaled, further_whole, cleared, zero_row, rows_met}
