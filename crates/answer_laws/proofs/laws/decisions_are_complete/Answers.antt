use Rattle.answer_laws.proofs.Complete.{decisions_complete}
use Rattle.answer_laws.proofs.laws.decisions_are_complete.Goals as goal

pub returns : goal.returns
returns c = decisions_complete c.decisions_tell.ensures
