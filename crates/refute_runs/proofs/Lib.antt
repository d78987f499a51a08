mod Procedures
mod Stops
mod ProbeResults
mod OfRuns
mod Examples
