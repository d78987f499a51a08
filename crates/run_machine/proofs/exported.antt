pub mod Equations
pub mod OwnOutputs
pub mod SameConfigs
pub mod StepWeights
pub mod StoredSteps
pub mod TypedStates
