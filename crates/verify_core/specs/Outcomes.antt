-- Outcomes of goals, of decisions or of certificates, and what follows from them. This project's
-- own.
use Rattle.std.specs.Option.{option_or}
use Rattle.std.specs.Prelude.{◌≡◌, Bool, true, false, ◌&&◌, List, [], ◌∷◌, ◌++◌, Option, Some, None}
use Rattle.std.specs.Prelude.{map, if◌then◌else◌}
use Rattle.goal_answers.specs.declared.named_goals.NamedGoal.{NamedGoal}
use Rattle.heylo_formula.specs.GoalOrder.{loop_of}
use Rattle.heylo_formula.specs.declared.goals.GoalId.{GoalId}
use Rattle.verdict_report.specs.declared.answers.LoopAnswer.{LoopAnswer}
use Rattle.verdict_report.specs.declared.answers.RankVerdict.{RankVerdict}
use Rattle.verdict_report.specs.declared.answers.RankVerdict.TheVariants as rank
use Rattle.verify_core.specs.Tables.{GoalWith}
use Rattle.verify_core.specs.declared.outcomes.GoalOutcome.{GoalOutcome}
use Rattle.verify_core.specs.declared.outcomes.Outcome.{Outcome}
use Rattle.verify_core.specs.declared.outcomes.Outcome.TheVariants.{Proved, Falsified, Unknown}
use Rattle.verify_core.specs.declared.outcomes.Outcome.TheVariants.{Missed}

-- ---- One goal

-- Whether the goal is proved.
abbrev pub is_proved : Outcome → Bool
is_proved Proved = true
is_proved (Falsified s) = false
is_proved (Unknown c) = false
is_proved (Missed m) = false

-- Whether the goal fails in a state.
abbrev pub is_falsified : Outcome → Bool
is_falsified Proved = false
is_falsified (Falsified s) = true
is_falsified (Unknown c) = false
is_falsified (Missed m) = false

-- Whether the goal is neither proved nor falsified: its decision is unknown, or the certificates do
-- not prove it.
abbrev pub is_open : Outcome → Bool
is_open Proved = false
is_open (Falsified s) = false
is_open (Unknown c) = true
is_open (Missed m) = true

-- The verdict on a ranking, by the outcome of its goal alone.
abbrev pub rank_of : Outcome → RankVerdict
rank_of Proved = rank.Ranked
rank_of (Falsified s) = rank.NotRanked s
rank_of (Unknown c) = rank.Unknown c
rank_of (Missed m) = rank.Unchecked m

-- The answer on a loop, by the outcome of its ranking's goal.
abbrev pub loop_answer : GoalOutcome → LoopAnswer
loop_answer o = record { number = loop_of o.goal.id; rank = rank_of o.outcome }

-- The goal, if its outcome has a state or a cause that an answer shows; otherwise none.
abbrev pub shown : GoalOutcome → List NamedGoal
shown o = by o.outcome
  where
    by : Outcome → List NamedGoal
    by Proved = []
    by (Falsified s) = o.goal ∷ []
    by (Unknown c) = o.goal ∷ []
    by (Missed m) = []

-- ---- The goals of a procedure

-- Whether all goals are proved.
abbrev pub all_proved : List GoalOutcome → Bool
all_proved [] = true
all_proved (o ∷ os) = is_proved o.outcome && all_proved os

-- The first goal whose outcome passes `test`, if there is one.
abbrev pub first_with : (Outcome → Bool) → List GoalOutcome → Option GoalOutcome
first_with test [] = None
first_with test (o ∷ os) = if test o.outcome then Some o else first_with test os

-- The goal that the verdict reports: the first falsified one, otherwise the first open one.
abbrev pub told : List GoalOutcome → Option GoalOutcome
told os = option_or (first_with is_falsified os) (first_with is_open os)

-- The verdict reports the goal `id`, whose outcome is `outcome`.
pub record IsTold (os : List GoalOutcome) (id : GoalId) (outcome : Outcome) : Type 0 where
  pub goal : NamedGoal
  pub id_of : goal.id ≡ id
  pub told_of : told os ≡ Some (record { goal = goal; outcome = outcome })

-- The goal as a list, empty if there is none.
abbrev pub listed : Option GoalOutcome → List GoalOutcome
listed (Some o) = o ∷ []
listed None = []

-- Those of the goals whose outcome has a state or a cause, in their order.
abbrev pub all_shown : List GoalOutcome → List NamedGoal
all_shown [] = []
all_shown (o ∷ os) = shown o ++ all_shown os

-- ---- The goals of a file

-- The goals whose state or cause is in an answer, procedure by procedure. In each, the one of the
-- bound precedes those of the rankings.
abbrev pub told_in_file : List (List GoalOutcome) → List (List GoalOutcome) → List NamedGoal
told_in_file [] ranks = []
told_in_file (os ∷ table) [] = []
told_in_file (os ∷ table) (rs ∷ ranks) =
    (all_shown (listed (told os)) ++ all_shown rs) ++ told_in_file table ranks

-- The goals of a row with their outcomes, where `f` makes an outcome of what was found.
abbrev pub outcomes : {A : Type 0} → (A → Outcome) → List (GoalWith A) → List GoalOutcome
outcomes {A} f gs = map (λ (g : GoalWith A). record { goal = g.goal; outcome = f g.found }) gs

-- The rows of `table` with their outcomes, where `f` makes an outcome of what was found.
abbrev pub all_outcomes : {A : Type 0} → (A → Outcome) → List (List (GoalWith A))
    → List (List GoalOutcome)
all_outcomes f table = map (outcomes f) table
