pub mod FaultTexts
pub mod FileLaws
pub mod PrintLaws
pub mod Programs
pub mod Sources
