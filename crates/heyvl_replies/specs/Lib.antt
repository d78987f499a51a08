pub use Rattle.command_rules.specs.Statuses
pub use Rattle.command_rules.specs.Messages
pub use Rattle.command_rules.specs.FileReplies
pub use Rattle.command_rules.specs.RunTexts
pub use Rattle.command_rules.specs.RunStarts
pub use Rattle.command_rules.specs.Responses
