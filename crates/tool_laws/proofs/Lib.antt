mod CommandReplies
mod Complete
mod StartLemmas
mod LowStatuses
mod CallExamples
mod CertificateExamples
mod StartExamples
mod ToldFaults
pub mod exported
