-- Lemmas for the proofs of other crates. All other proofs are private to this crate.
pub mod Beginnings
pub mod Digits
pub mod FaultPlaces
pub mod FewNodes
pub mod InOrder
pub mod OneFault
pub mod PlainTreesAre
pub mod Runs
pub mod Sequences
pub mod Starts
pub mod Steps
pub mod TokenReads
pub mod TreeSizes
pub mod Unique
