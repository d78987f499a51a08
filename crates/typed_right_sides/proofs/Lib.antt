pub mod WeightFractions
pub mod Coprime
pub mod IntegerParts
mod RightRules
mod FlipRules
pub mod WeightSums
