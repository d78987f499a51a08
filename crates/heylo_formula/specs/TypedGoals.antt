-- Well-formed goals: two formulas without binders over the variables of the goal, each of which has
-- a type and a name. This project's own.
use Rattle.std.specs.Prelude.{◌≡◌, ◌≤◌, length, false}
use Rattle.heylo_formula.specs.Binders.{has_binder}
use Rattle.heylo_formula.specs.Goals.{Goal}
use Rattle.heylo_formula.specs.Typing.{types_in, IsFormula}
use Rattle.heylo_formula.specs.Variables.{IsOver}

-- Both forms are formulas for the types of the goal's variables.
pub record IsTypedGoal (g : Goal) : Type 0 where
  pub stated : IsFormula (types_in g.types) g.stated
  pub found : IsFormula (types_in g.types) g.found

-- Each free variable of the two forms is one of the goal's variables.
pub record HasItsVariables (g : Goal) : Type 0 where
  pub stated : IsOver (length g.types) g.stated
  pub found : IsOver (length g.types) g.found

-- Neither form has a binder.
pub record HasNoBinder (g : Goal) : Type 0 where
  pub stated : has_binder g.stated ≡ false
  pub found : has_binder g.found ≡ false

-- A well-formed goal. The variables of the procedure and of its encoding, of which there are `own`,
-- come first among its variables.
pub record IsGoal (g : Goal) : Type 0 where
  pub typed : IsTypedGoal g
  pub over : HasItsVariables g
  pub unbound : HasNoBinder g
  pub named : length g.names ≡ length g.types
  pub owned : g.own ≤ length g.types
