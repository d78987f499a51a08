pub use Rattle.command_rules.specs.Summaries
pub use Rattle.command_rules.specs.Reports
