pub mod LoopParts
pub mod Calm
mod Examples
pub mod UniqueLoops
pub mod LentLoops
pub mod InputBounds
pub mod RemainderPairs
pub mod LentPairs
pub mod StartParts
pub mod StartForms
pub mod MadeStarts
mod RemainderExamples
mod WitnessExamples
pub mod PlacedForms
pub mod Positions
pub mod PutSizes
pub mod TurnActs
pub mod GoalVariables
pub mod OmegaParts
pub mod GoalForms
pub mod PairShapes
pub mod ReadyPairs
pub mod StepWays
pub mod OmegaGoals
pub mod PairsAt
pub mod exported
