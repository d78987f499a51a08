pub mod PlacelessRuns
