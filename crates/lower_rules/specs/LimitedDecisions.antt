-- Decisions of upper goals of which some forms have limits. This project's own.
use Rattle.std.specs.List.{Contains}
use Rattle.std.specs.Prelude.{List}
use Rattle.goal_answers.specs.declared.causes.Cause.TheVariants as cause
use Rattle.goal_answers.specs.declared.decisions.Decision.{Decision}
use Rattle.goal_answers.specs.declared.decisions.Decision.TheVariants.{Unknown}
use Rattle.heylo_formula.specs.Formula.{Form}
use Rattle.heylo_formula.specs.Goals.{Goal}
use Rattle.heyvl_acts.specs.Rules.{Each}
use Rattle.region_split.specs.Decisions.{IsDecision}
use Rattle.vp_generator.specs.Limits.{IsSmall, IsTooDeep, IsTooLarge}

-- The decision is one of the goal, and each of the forms is within the limits; or it is `Unknown`
-- with a limit that one of the forms exceeds.
pub data IsDecidedWithin (g : Goal) (forms : List Form) : Decision → Type 0 where
  decided : (d : Decision) → Each IsSmall forms → IsDecision g d → IsDecidedWithin g forms d
  too_deep : (f : Form) → Contains forms f → IsTooDeep f
      → IsDecidedWithin g forms (Unknown cause.Depth)
  too_many : (f : Form) → Contains forms f → IsTooLarge f
      → IsDecidedWithin g forms (Unknown cause.Nodes)
