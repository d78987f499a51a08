-- For other crates: acts without loops, calls, checks and validations, taken upward, are well
-- typed, give any value only to variables of the procedure, and read only these.
pub use Rattle.ranking_rule.proofs.RankedBodies.{IsTurnAct, upward_fit}
pub use Rattle.ranking_rule.proofs.MadeRankings.{upward_below}
pub use Rattle.ranking_rule.proofs.ReadVariables.{upward_over, RankIsOver, some_rank}
