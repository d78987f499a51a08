pub mod BoundQuestions
pub mod SettledGoals
pub mod Own
pub mod Marks
pub mod CertificateAnswers
pub mod Decidable
