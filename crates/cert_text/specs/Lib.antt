pub mod Certificates
pub mod Lines
pub mod Texts
pub mod TextLaws
pub mod Stops
pub mod internal
