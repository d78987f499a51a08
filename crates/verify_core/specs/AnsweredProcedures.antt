-- The answers on the procedures of a file by the decisions of their goals. This project's own.
use Rattle.std.specs.Prelude.{◌≡◌, List}
use Rattle.goal_answers.specs.declared.named_goals.NamedGoal.{NamedGoal}
use Rattle.goal_answers.specs.declared.trees.GoalCert.{GoalCert}
use Rattle.heyvl_acts.specs.Acts.{TypedProcedure}
use Rattle.verdict_report.specs.declared.answers.Answer.{Answer}
use Rattle.verify_core.specs.GoalDecisions.{DecidedGoal, IsRankTable, IsTable, certified_in_file}
use Rattle.verify_core.specs.GoalDecisions.{outcome_of}
use Rattle.verify_core.specs.Outcomes.{all_outcomes, told_in_file}
use Rattle.verify_core.specs.Verdicts.{AreAnswers}

-- The answers `answers` follow from some decisions of the goals of `ps`: `table` has those of
-- bounds, `ranks` those of rankings. `made` are the goals whose state or cause is in an answer, and
-- `certs` the certificates of the proved goals.
pub record AreAnswered (ps : List TypedProcedure) (answers : List Answer) (made : List NamedGoal)
    (certs : List GoalCert) : Type 0 where
  pub table : List (List DecidedGoal)
  pub ranks : List (List DecidedGoal)
  pub decided : IsTable ps 0 ps table
  pub ranks_decided : IsRankTable ps 0 ps ranks
  pub answers_of : AreAnswers ps (all_outcomes outcome_of table)
      (all_outcomes outcome_of ranks) 0 ps answers
  pub made_of : made ≡ told_in_file (all_outcomes outcome_of table) (all_outcomes outcome_of ranks)
  pub certs_of : certs ≡ certified_in_file table ranks
