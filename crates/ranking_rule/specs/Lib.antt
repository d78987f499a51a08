pub mod Rankings
pub mod RankingGoals
pub mod Laws
pub mod internal
