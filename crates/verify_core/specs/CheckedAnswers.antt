-- The answers on the procedures of a file by certificates of their goals. This project's own.
use Rattle.std.specs.Prelude.{List}
use Rattle.goal_answers.specs.declared.trees.GoalCert.{GoalCert}
use Rattle.heyvl_acts.specs.Acts.{TypedProcedure}
use Rattle.verdict_report.specs.declared.answers.Answer.{Answer}
use Rattle.verify_core.specs.CertifiedGoals.{CheckedGoal, IsCheckedRankTable, IsCheckedTable}
use Rattle.verify_core.specs.CertifiedGoals.{outcome_of}
use Rattle.verify_core.specs.Outcomes.{all_outcomes}
use Rattle.verify_core.specs.Verdicts.{AreAnswers}

-- The answers `answers` follow from checking the goals of `ps` by `certs`: `table` has the checked
-- goals of bounds, `ranks` those of rankings.
pub record IsCheckedFile (ps : List TypedProcedure) (certs : List GoalCert) (answers : List Answer)
    : Type 0 where
  pub table : List (List CheckedGoal)
  pub ranks : List (List CheckedGoal)
  pub checked : IsCheckedTable ps certs 0 ps table
  pub ranks_checked : IsCheckedRankTable ps certs 0 ps ranks
  pub answers_of : AreAnswers ps (all_outcomes outcome_of table)
      (all_outcomes outcome_of ranks) 0 ps answers
