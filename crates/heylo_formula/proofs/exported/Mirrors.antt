-- For the proofs of other crates: the plain tree of each kind of node of the code.
pub use Rattle.heylo_formula.proofs.Mirrors.{number_form, variable_form, sum_form, difference_form, cut_form, scale_form, product_form, min_form, max_form, imply_form, co_imply_form, validate_form, co_validate_form, embed_form, iverson_form, select_form, bind_form, constant_cond, flag_cond, not_cond, and_cond, or_cond, same_cond, le_cond, lt_cond, equal_cond, ite_cond}
