pub mod exported
mod ReaderAnswers
mod Feeds
mod FewSteps
mod FirstFaults
mod NextLines
mod LineOrder
mod Numbers
mod ReadSoFar
mod FirstStates
mod WorkedScripts
mod WorkedStarts
