pub mod OwnVariables
pub mod CalmSteps
pub mod Straight
pub mod OmegaBounds
pub mod CalmShapes
pub mod RaisedBounds
pub mod OneParts
pub mod RemainderBounds
mod Examples
mod LawExamples
pub mod VerdictsOn
pub mod StartLaws
pub mod MadeDecisions
pub mod StartedPairs
pub mod Promises
pub mod PartAnswers
pub mod Apart
pub mod TurnsApart
pub mod GoalStates
pub mod MeantGoals
pub mod DecidablePairs
pub mod ToldAnswers
