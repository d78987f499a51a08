mod Breaks
mod Targets
mod CalledProcedures
mod Marks
mod Walk
mod Examples
