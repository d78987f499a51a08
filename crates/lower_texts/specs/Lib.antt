pub mod PlacedCauses
pub mod OmegaTexts
pub mod RemainderTexts
pub mod internal
