pub mod AcceptedCertificates
pub mod CertificateLaws
pub mod Verdicts
pub mod internal
