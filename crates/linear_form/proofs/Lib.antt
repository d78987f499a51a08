mod OneSidedSums
mod QueryTrees
mod TypedValues
mod EndValues
mod EachResults
mod ConstantForms
pub mod PathSteps
pub mod SplitPaths
pub mod AnsweredPaths
pub mod AgreedEnds
mod MetClaims
mod NormalClaims
pub mod TypedTrees
pub mod NumericRows
pub mod DeniedRows
mod DeniedGoalPlaces
mod ShortPaths
mod ClaimedRows
mod KnownTruths
pub mod FalsifyingPoints
pub mod Truths
pub mod UnsignedRows
pub mod MetRows
mod Runs
mod PlaceExamples
mod PathEnds
mod KeptValues
mod OperatorRuns
mod RowsOfClaims
mod SignRows
mod SignClaims
mod FoundRows
mod AssembledTrees
mod EndAnswers
mod GrowingRows
pub mod PathRowSteps
mod RepeatedRows
pub mod LastRows
pub mod PlaceRuns
pub mod exported
mod SplitAtoms
mod SureQuestions
mod KeptOperations
mod EvaluationRuns
mod Clones
mod PlainPartsAre
mod OperatedOutcomes
mod PartsThatWait
mod ReadyParts
mod FoldedForms
mod FramesThatAsk
mod NodeWorks
mod GoalPartLists
