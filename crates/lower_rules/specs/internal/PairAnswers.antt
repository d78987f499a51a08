-- The answer on an omega pair, goal by goal.
use Rattle.goal_answers.specs.declared.causes.Cause.{Cause}
use Rattle.goal_answers.specs.declared.decisions.Decision.{Decision}
use Rattle.goal_answers.specs.declared.decisions.Decision.TheVariants as decision
use Rattle.lower_goals.specs.declared.answers.Omega.{Omega}
use Rattle.lower_goals.specs.declared.answers.Omega.TheVariants.{Holds, Fails, Unknown, Shape}
use Rattle.lower_goals.specs.declared.answers.Step.{Step}

-- `answer_of`: the answer for one goal alone. `unless_fails`: the answer `Unknown` for a goal,
-- unless a later goal is falsified.
abbrev pub answer_of : Step → Decision → Omega
answer_of step (decision.Proved t) = Holds
answer_of step (decision.Falsified s) = Fails step s
answer_of step (decision.Unknown c) = Unknown step c

abbrev pub unless_fails : Step → Cause → Omega → Omega
unless_fails step c (Fails other s) = Fails other s
unless_fails step c Holds = Unknown step c
unless_fails step c (Unknown other d) = Unknown step c
unless_fails step c Shape = Unknown step c

-- The answer for some goals and for those after them.
abbrev pub both : Omega → Omega → Omega
both Holds o = o
both Shape o = Shape
both (Fails step s) o = Fails step s
both (Unknown step c) o = unless_fails step c o
