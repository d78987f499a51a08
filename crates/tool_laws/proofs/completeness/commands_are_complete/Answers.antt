use Rattle.tool_laws.proofs.Complete.{complete}
use Rattle.tool_laws.proofs.completeness.commands_are_complete.Goals as goal

pub returns : goal.returns
returns c = complete
