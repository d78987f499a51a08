-- For other crates: the prenexed form has fewer nodes than the form, by the number of binders.
pub use Rattle.ranking_rule.proofs.PrenexedSizes.{nodes_unbound}
