mod FoldedForms
mod Examples
