mod NoFault
mod WrittenSummary
