-- The lemmas that crates above may cite. All other proofs are private.
pub mod CallLemmas
pub mod BoundHeadline
pub mod HeadlineLemmas
pub mod ProgramHeadline
pub mod RefuteHeadline
pub mod RunHeadline
