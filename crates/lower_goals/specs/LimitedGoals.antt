-- Results for upper goals of which some forms have limits. This project's own.
use Rattle.std.specs.List.{Contains}
use Rattle.std.specs.Prelude.{◌≡◌, List}
use Rattle.heylo_formula.specs.Formula.{Form}
use Rattle.heylo_formula.specs.Goals.{Goal, goal_of}
use Rattle.heylo_formula.specs.declared.goals.Goal as declared
use Rattle.heylo_formula.specs.declared.goals.Made.TheVariants as made
use Rattle.heylo_formula.specs.declared.goals.Made.{Made}
use Rattle.heyvl_acts.specs.Rules.{Each}
use Rattle.vp_generator.specs.Limits.{IsSmall, IsTooDeep, IsTooLarge}

-- The result is the goal, and each of the forms is within the limits; or it is a limit that one of
-- the forms exceeds.
pub data IsMadeFor (g : Goal) (forms : List Form) : Made → Type 0 where
  whole : (h : declared.Goal) → goal_of h ≡ g → Each IsSmall forms → IsMadeFor g forms (made.Goal h)
  too_deep : (f : Form) → Contains forms f → IsTooDeep f → IsMadeFor g forms made.Depth
  too_many : (f : Form) → Contains forms f → IsTooLarge f → IsMadeFor g forms made.Nodes
