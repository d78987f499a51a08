use Rattle.answer_laws.proofs.KeptAnswers.{ranks_kept, verdicts_kept}
use Rattle.answer_laws.proofs.laws.verdicts_are_kept.Goals as goal

pub returns : goal.returns
returns c = record {
  bounds = verdicts_kept c.proved_goals_are_accepted.ensures.nothing_missed c.proved_goals_are_accepted.ensures.others_missed c.tables_give_one_verdict.ensures.misses;
  rankings = ranks_kept c.proved_goals_are_accepted.ensures.no_ranking_missed c.proved_goals_are_accepted.ensures.others_missed;
}
