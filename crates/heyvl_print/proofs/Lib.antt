mod BlockTexts
mod ExpressionTexts
mod NumberTexts
mod LexedPieces
mod ExpressionsAgain
mod LineTexts
mod NumbersAgain
mod ProcedureTexts
mod TreePieces
mod Rows
mod Texts
mod StatementsAgain
mod ProceduresAgain
mod FilesAgain
mod SameTexts
pub mod exported
