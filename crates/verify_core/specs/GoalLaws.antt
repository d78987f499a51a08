-- A goal without binders holds exactly if the goal of the bound from which it was made holds. This
-- project's own.
use Rattle.std.specs.Prelude.{◌↔◌, ◌<◌, ℕ, List, length}
use Rattle.heylo_formula.specs.Goals.{Holds}
use Rattle.heyvl_acts.specs.Acts.{TypedProcedure, procedure_at}
use Rattle.heyvl_acts.specs.Rules.{Each, MeetsRules}
use Rattle.loop_encodings.specs.BoundGoals.{BoundGoal, GoalHolds}
use Rattle.verify_core.specs.Questions.{goal, question}

-- In a file that satisfies the rules: the goal of `asked`, in which each binder has become a
-- variable, holds in every state of its variables exactly if `asked` holds for every state and all
-- choices.
abbrev pub MadeGoalsSayBounds : Type 0
MadeGoalsSayBounds = (ps : List TypedProcedure) (p : ℕ) (asked : BoundGoal)
    → Each (MeetsRules ps) ps → p < length ps → Holds (goal (question ps (procedure_at ps p) asked))
    ↔ GoalHolds ps (procedure_at ps p) asked
