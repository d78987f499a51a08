pub mod RightSideParts
pub mod RightSideRules
