-- What a goal has to satisfy before it is decided.
use Rattle.std.specs.Prelude.{◌<◌, ◌^◌, length}
use Rattle.heylo_formula.specs.Goals.{Goal, goal_of}
use Rattle.heylo_formula.specs.Sizes.{nodes}
use Rattle.heylo_formula.specs.TypedGoals.{HasItsVariables, IsTypedGoal}
use Rattle.heylo_formula.specs.declared.goals.Made.{Made}
use Rattle.heylo_formula.specs.declared.goals.Made.TheVariants as made

-- The goal is typed and over its own variables, its forms have fewer than `2 ^ 29` nodes each, and
-- it has fewer than `2 ^ 31` variables.
pub record IsDecidable (g : Goal) : Type 0 where
  pub typed : IsTypedGoal g
  pub over : HasItsVariables g
  pub stated : nodes g.stated < 2 ^ 29
  pub found : nodes g.found < 2 ^ 29
  pub variables : length g.types < 2 ^ 31

-- If there is no goal, nothing is required.
abbrev pub CanDecide : Made → Type 0
CanDecide (made.Goal g) = IsDecidable (goal_of g)
CanDecide made.Depth = Unit {0}
CanDecide made.Nodes = Unit {0}
