-- For the proofs of other crates: the value and the type of a form depend only on its free
-- variables.
pub use Rattle.heylo_formula.proofs.Dependence.{same_on, same_on_in, unfree, unfree_in, unchosen, unchosen_in, unused_free, unused_free_in, three, or_false, neither, clash}
pub use Rattle.heylo_formula.proofs.SubstitutionTypes.{same_types, same_truth}
