pub mod CommandLine
pub mod Met
