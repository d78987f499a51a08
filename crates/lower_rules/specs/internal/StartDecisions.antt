-- The decision of a remainder pair's goal, and the answer for it.
use Rattle.std.specs.Prelude.{[], ◌∷◌, length, take}
use Rattle.goal_answers.specs.declared.decisions.Decision.{Decision}
use Rattle.goal_answers.specs.declared.decisions.Decision.TheVariants as decision
use Rattle.heyvl_num.specs.Rational.{Rational}
use Rattle.heylo_formula.specs.Formula.{Form}
use Rattle.heyvl_acts.specs.Acts.{Acts, TypedProcedure, variables}
use Rattle.ranking_rule.specs.RankingGoals.{generated}
use Rattle.region_split.specs.Meanings as meaning
use Rattle.lower_goals.specs.StartGoals.{StartFails, StartHolds, start_goal}
use Rattle.lower_rules.specs.LimitedDecisions.{IsDecidedWithin}
use Rattle.lower_goals.specs.declared.remainder_answers.Remainder.{Remainder}
use Rattle.lower_goals.specs.declared.remainder_answers.Remainder.TheVariants.{Holds, Fails}
use Rattle.lower_goals.specs.declared.remainder_answers.Remainder.TheVariants.{Unknown}

-- The meaning of a decision over the states of the first procedure.
abbrev pub TellsOfStart : TypedProcedure → Acts → Rational × Form → Form → Decision → Type 0
TellsOfStart p front r bound (decision.Proved tree) = StartHolds p front r bound
TellsOfStart p front r bound (decision.Falsified s) = StartFails p front r bound
    (take (length (variables p)) s.items) × meaning.Fails (start_goal p front r bound) s.items
TellsOfStart p front r bound (decision.Unknown cause) = Unit {0}

-- `d` is the decision of the goal, with its meaning over states.
pub record IsStarted (p q : TypedProcedure) (front : Acts) (r : Rational × Form) (d : Decision)
    : Type 0 where
  pub decided : IsDecidedWithin (start_goal p front r q.pre) (generated front r ∷ []) d
  pub tells : TellsOfStart p front r q.pre d

-- The answer for a decision.
abbrev pub answer_by : Rational → Decision → Remainder
answer_by e (decision.Proved tree) = Holds e
answer_by e (decision.Falsified s) = Fails s
answer_by e (decision.Unknown cause) = Unknown cause
