mod LinearValues
mod KeptParts
mod Products
mod WholeFractions
mod MergedTerms
mod TightRows
mod Factors
mod RowParts
mod UnitRows
mod TighteningExamples
mod KeptTerms
pub mod exported
mod Nothing
