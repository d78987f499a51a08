-- The names of the variables of a goal. This project's own.
use Rattle.heylo_formula.specs.declared.goals.GoalId.{GoalId}
use Rattle.heylo_formula.specs.declared.goals.GoalId.TheVariants.{Main, Pre, Post, Invariant}
use Rattle.heylo_formula.specs.declared.goals.GoalId.TheVariants.{Ranking}
use Rattle.heylo_formula.specs.declared.goals.Made.{Made}
use Rattle.heylo_formula.specs.declared.goals.Made.TheVariants as made
use Rattle.std.specs.Prelude.{Bool, List, [], false, if◌then◌else◌, true, ◌&&◌, ◌==◌, ◌∷◌, ℕ}
use Rattle.verdict_report.specs.Settings.{Names, named_by}
use Rattle.goal_answers.specs.declared.named_goals.NamedGoal.{NamedGoal}

-- Whether both are the same goal of a procedure.
abbrev pub is_same : GoalId → GoalId → Bool
is_same Main Main = true
is_same Pre Pre = true
is_same Post Post = true
is_same (Invariant n) (Invariant m) = n == m
is_same (Ranking n) (Ranking m) = n == m
is_same i j = false

-- The names of no variables.
abbrev pub no_names : Names
no_names = named_by [] 0

-- The names of the variables of a goal, or none if there is no goal.
abbrev pub names_of_made : Made → Names
names_of_made (made.Goal g) = named_by g.names.items g.own
names_of_made made.Depth = no_names
names_of_made made.Nodes = no_names

-- The names of the variables of the goal `id` of the procedure `p`, or none if it is not in the
-- list.
abbrev pub names_of : ℕ → GoalId → List NamedGoal → Names
names_of p id [] = no_names
names_of p id (g ∷ gs) = if (g.proc == p) && is_same g.id id then names_of_made g.made
    else names_of p id gs
