-- Inequalities over states and choices, and the goals without binders that express them. This
-- project's own.
use Rattle.std.specs.Prelude.{◌≡◌, ◌↔◌, ◌+◌, ℕ, Bool, false, List, ◌++◌, length, map, take}
use Rattle.heylo_formula.specs.Formula.{Form}
use Rattle.heylo_formula.specs.State.{environment, IsTyped}
use Rattle.heylo_formula.specs.Choices.{Choices}
use Rattle.heylo_formula.specs.Meaning.{value}
use Rattle.heylo_formula.specs.Binders.{has_binder}
use Rattle.heylo_formula.specs.BinderNames.{binders}
use Rattle.heylo_formula.specs.Goals.{Goal, Compares, Holds, HoldsIn, goal_of}
use Rattle.heylo_formula.specs.TypedGoals.{IsGoal}
use Rattle.heylo_formula.specs.Typing.{types_in, IsFormula}
use Rattle.heylo_formula.specs.Variables.{IsOver}
use Rattle.heylo_formula.specs.declared.goals.Made.{Made}
use Rattle.heylo_formula.specs.declared.types.Ty.{Ty}
use Rattle.heylo_formula.specs.declared.values.Val.{Val}
use Rattle.heyvl_acts.specs.declared.typed_trees.VarInfo.{VarInfo}
use Rattle.vp_generator.specs.Limits.{IsSmall, IsTooDeep, IsTooLarge}
use Rattle.vp_generator.specs.PrenexedForms.{prenexed, new_types}
use Rattle.vp_generator.specs.Scopes.{named}

-- `HoldsByChoices up tys stated found`: in each state of the types `tys`, for all choices in
-- `found`, the value of `found` is at most that of `stated` if `up` is true, otherwise at least.
abbrev pub HoldsByChoices : Bool → List Ty → Form → Form → Type 0
HoldsByChoices up tys stated found = (s : List Val) (c : Choices) → IsTyped tys s
    → Compares up (value stated (environment s) Choices.stop) (value found (environment s) c)

-- `prenexed_goal up tys names stated found`: the goal that `found` is at most `stated` if `up` is
-- true, otherwise at least, with a variable in place of each binder of `found`. The variables of
-- the binders follow those of `tys`, and `names` are the names of all.
abbrev pub prenexed_goal : Bool → List Ty → List (List ℕ) → Form → Form → Goal
prenexed_goal up tys names stated found = record {
  upper = up;
  stated = stated;
  found = prenexed (length tys) found;
  types = tys ++ new_types (binders found);
  names = names;
  own = length tys;
}

-- The goal holds exactly if the inequality holds in each state for all choices.
abbrev pub PrenexedGoalsSpeakOfChoices : Type 0
PrenexedGoalsSpeakOfChoices = (up : Bool) (tys : List Ty) (names : List (List ℕ))
    (stated found : Form) → IsOver (length tys) stated → IsOver (length tys) found
    → HoldsByChoices up tys stated found ↔ Holds (prenexed_goal up tys names stated found)

-- `FailsByChoices up tys stated found s`: in the state `s` of the types `tys` the inequality fails
-- for some choices in `found`.
pub record FailsByChoices (up : Bool) (tys : List Ty) (stated found : Form) (s : List Val)
    : Type 0 where
  pub choices : Choices
  pub state : IsTyped tys s
  pub fails : Compares up (value stated (environment s) Choices.stop)
      (value found (environment s) choices) → ⊥

-- If the goal fails in a state of its variables, the inequality fails for some choices in the state
-- of the first variables, without those of the binders.
abbrev pub PrenexedGoalsFailByChoices : Type 0
PrenexedGoalsFailByChoices = (up : Bool) (tys : List Ty) (names : List (List ℕ))
    (stated found : Form) → IsOver (length tys) stated → IsOver (length tys) found → (s : List Val)
    → IsTyped (tys ++ new_types (binders found)) s
    → (HoldsIn (prenexed_goal up tys names stated found) (environment s) → ⊥)
    → FailsByChoices up tys stated found (take (length tys) s)

-- Two formulas over the variables make a goal, if only `found` has binders and each variable has a
-- name.
abbrev pub PrenexedGoalsAreGoals : Type 0
PrenexedGoalsAreGoals = (up : Bool) (tys : List Ty) (names : List (List ℕ)) (stated found : Form)
    → IsFormula (types_in tys) stated → IsFormula (types_in tys) found → IsOver (length tys) stated
    → IsOver (length tys) found → has_binder stated ≡ false
    → length names ≡ length tys + length (binders found)
    → IsGoal (prenexed_goal up tys names stated found)

-- The types of the variables, in their order.
abbrev pub types_of_variables : List VarInfo → List Ty
types_of_variables vs = map (λ v. v.ty) vs

-- The names of the variables, in their order.
abbrev pub names_of_variables : List VarInfo → List (List ℕ)
names_of_variables vs = map (λ v. v.name) vs

-- `IsMadeWithin f g m`: `m` is the goal `g`, and `f` is within the limits; or `m` is a limit that
-- `f` exceeds. `f` is counted with its binders.
abbrev pub IsMadeWithin : Form → Goal → Made → Type 0
IsMadeWithin f g (Made.Goal h) = (goal_of h ≡ g) × IsSmall f
IsMadeWithin f g Made.Depth = IsTooDeep f
IsMadeWithin f g Made.Nodes = IsTooLarge f

-- `IsMade up stated found vs m`: `m` is the goal of `stated` and `found`, two forms over the
-- variables `vs`, or a limit that `found` exceeds. After `vs`, the goal has a variable for each
-- binder of `found`, with the name of the variable after which the binder is named.
abbrev pub IsMade : Bool → Form → Form → List VarInfo → Made → Type 0
IsMade up stated found vs m = IsMadeWithin found
    (prenexed_goal up (types_of_variables vs)
    (names_of_variables (named vs (binders found))) stated found) m
