-- The meaning of a decision for the states of a goal.
use Rattle.std.specs.Prelude.{List}
use Rattle.heylo_formula.specs.Goals.{Goal, HoldsIn, Holds}
use Rattle.heylo_formula.specs.State.{environment, IsTyped}
use Rattle.heylo_formula.specs.declared.values.Val.{Val}
use Rattle.goal_answers.specs.declared.decisions.Decision.{Decision}
use Rattle.goal_answers.specs.declared.decisions.Decision.TheVariants.{Proved, Falsified, Unknown}

-- `Fails g point`: the goal `g` fails in the state `point`, whose values have the types of their
-- variables.
pub record Fails (g : Goal) (point : List Val) : Type 0 where
  pub typed : IsTyped g.types point
  pub fails : HoldsIn g (environment point) → ⊥

-- `Tells g d`: a proved goal holds in each state, a falsified goal fails in the state that is
-- shown, and an unknown one says nothing.
abbrev pub Tells : Goal → Decision → Type 0
Tells g (Proved t) = Holds g
Tells g (Falsified point) = Fails g point.items
Tells g (Unknown cause) = Unit {0}
