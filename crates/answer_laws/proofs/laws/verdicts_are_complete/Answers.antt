use Rattle.answer_laws.proofs.Complete.{rank_verdicts_complete, verdicts_complete}
use Rattle.answer_laws.proofs.laws.verdicts_are_complete.Goals as goal

pub returns : goal.returns
returns c = record { bounds = verdicts_complete; rankings = rank_verdicts_complete }
