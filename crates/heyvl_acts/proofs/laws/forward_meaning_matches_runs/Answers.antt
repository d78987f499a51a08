use Rattle.heyvl_acts.proofs.Matching.{joined, draws, tosses, rewards, branches, anys, picks, checks}
use Rattle.heyvl_acts.proofs.laws.forward_meaning_matches_runs.Goals as goal

pub returns-clause-join : goal.returns-clause-join
returns-clause-join c = joined

pub returns-clause-draws : goal.returns-clause-draws
returns-clause-draws c = draws

pub returns-clause-tosses : goal.returns-clause-tosses
returns-clause-tosses c = tosses

pub returns-clause-rewards : goal.returns-clause-rewards
returns-clause-rewards c = rewards

pub returns-clause-branches : goal.returns-clause-branches
returns-clause-branches c = branches

pub returns-clause-anys : goal.returns-clause-anys
returns-clause-anys c = anys

pub returns-clause-picks : goal.returns-clause-picks
returns-clause-picks c = picks

pub returns-clause-checks : goal.returns-clause-checks
returns-clause-checks c = checks
