use Rattle.verify_core.proofs.AcceptedProofs.{proved_goals_are_accepted, proved_rankings_are_accepted}
use Rattle.verify_core.proofs.ServedGoals.{proofs_are_accepted}
use Rattle.verify_core.proofs.UnprovedGoals.{other_goals_missed}
use Rattle.verify_core.proofs.laws.proved_goals_are_accepted.Goals as goal

pub returns-clause-accepted : goal.returns-clause-accepted
returns-clause-accepted c = proofs_are_accepted c.walk_trees_certify.ensures.certify

pub returns-clause-nothing_missed : goal.returns-clause-nothing_missed
returns-clause-nothing_missed c = proved_goals_are_accepted c.walk_trees_certify.ensures.certify c.certificates_are_told_apart.ensures.never_both

pub returns-clause-no_ranking_missed : goal.returns-clause-no_ranking_missed
returns-clause-no_ranking_missed c = proved_rankings_are_accepted c.walk_trees_certify.ensures.certify c.certificates_are_told_apart.ensures.never_both

pub returns-clause-others_missed : goal.returns-clause-others_missed
returns-clause-others_missed c = other_goals_missed
