-- Decisions of the goals of an omega pair.
use Rattle.std.specs.Prelude.{◌≡◌}
use Rattle.region_split.specs.Meanings.{Tells}
use Rattle.goal_answers.specs.declared.decisions.Decision.{Decision}
use Rattle.lower_rules.specs.OmegaAnswers.{told}
use Rattle.lower_goals.specs.OmegaGoals.{limited, step_goal}
use Rattle.lower_goals.specs.OmegaPairs.{formula_of}
use Rattle.lower_rules.specs.LimitedDecisions.{IsDecidedWithin}
use Rattle.lower_goals.specs.declared.answers.Omega.{Omega}
use Rattle.lower_goals.specs.declared.answers.Step.{Step}
use Rattle.lower_goals.specs.declared.answers.Step.TheVariants.{One, Base, Turn}
use Rattle.lower_goals.specs.declared.pairs.Pair.{Pair}
use Rattle.lower_goals.specs.LentOmegaPairs.{first, head, body, behind, second}

-- `d` is the decision of the goal of the step, with its meaning over states.
pub record IsStep (x : Pair) (step : Step) (d : Decision) : Type 0 where
  pub decided : IsDecidedWithin (step_goal (first x) (head x) (body x) (behind x) (second x) step)
      (limited (first x) (body x) (behind x) (formula_of (first x) (head x) (second x)) step) d
  pub tells : Tells (step_goal (first x) (head x) (body x) (behind x) (second x) step) d

-- The answer is that for the decisions of the three goals.
pub record IsToldOf (x : Pair) (answer : Omega) : Type 0 where
  pub one : Decision
  pub base : Decision
  pub turn : Decision
  pub one_is : IsStep x One one
  pub base_is : IsStep x Base base
  pub turn_is : IsStep x Turn turn
  pub is_told : answer ≡ told one base turn
