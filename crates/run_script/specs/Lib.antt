pub mod Lines
pub mod PlainScripts
pub mod ScriptLaws
pub mod Scripts
pub mod Starts
pub mod Stops
pub mod Texts
pub mod internal
