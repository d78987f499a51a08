-- Laws of goals: what they depend on, and the states that they quantify over.
use Rattle.std.specs.Prelude.{◌≡◌, ◌↔◌, ℕ, ◌<◌, length, true}
use Rattle.heylo_formula.specs.State.{Env, has}
use Rattle.heylo_formula.specs.Choices.{Choices}
use Rattle.heylo_formula.specs.Meaning.{value}
use Rattle.heylo_formula.specs.Typing.{types_in}
use Rattle.heylo_formula.specs.Goals.{Goal, Holds, HoldsIn}
use Rattle.heylo_formula.specs.TypedGoals.{HasItsVariables, HasNoBinder}

-- Whether a goal holds in a state depends only on the variables of the goal.
abbrev pub GoalsReadTheirVariables : Type 0
GoalsReadTheirVariables = (g : Goal) (s t : Env) → HasItsVariables g
    → ((x : ℕ) → x < length g.types → s x ≡ t x) → HoldsIn g s → HoldsIn g t

-- A goal holds if and only if it holds in each environment whose first values have the types of the
-- goal.
abbrev pub GoalsHoldInTypedEnvironments : Type 0
GoalsHoldInTypedEnvironments = (g : Goal) → HasItsVariables g
    → Holds g ↔ ((s : Env) → ((x : ℕ) → x < length g.types → has (types_in g.types x) (s x) ≡ true)
    → HoldsIn g s)

-- The values of the two forms of a goal do not depend on choices.
abbrev pub GoalsIgnoreChoices : Type 0
GoalsIgnoreChoices = (g : Goal) (s : Env) (c : Choices) → HasNoBinder g
    → (value g.stated s c ≡ value g.stated s Choices.stop)
    × (value g.found s c ≡ value g.found s Choices.stop)
