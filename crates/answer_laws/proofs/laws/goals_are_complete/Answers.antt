use Rattle.answer_laws.proofs.Complete.{goals_complete}
use Rattle.answer_laws.proofs.laws.goals_are_complete.Goals as goal

pub returns : goal.returns
returns c = goals_complete c.answers_keep_promises.ensures.alone
