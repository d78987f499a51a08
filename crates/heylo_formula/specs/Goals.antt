-- Goals, which are verification conditions, and when a goal holds.
use Rattle.std.specs.Prelude.{ℕ, Bool, true, false, List}
use Rattle.heyvl_num.specs.Value.{Value, ◌≤ᵛ◌}
use Rattle.heylo_formula.specs.Formula.{Form}
use Rattle.heylo_formula.specs.PlainTrees.{form_of}
use Rattle.heylo_formula.specs.State.{Env, environment, IsTyped}
use Rattle.heylo_formula.specs.Choices.{Choices}
use Rattle.heylo_formula.specs.Meaning.{value}
use Rattle.heylo_formula.specs.declared.types.Ty.{Ty}
use Rattle.heylo_formula.specs.declared.values.Val.{Val}
use Rattle.heylo_formula.specs.declared.goals.Goal as declared

-- A goal: an inequality between a stated bound and a computed form. An upper goal asks that the
-- stated bound is at least the computed form, a lower goal that it is at most the computed form.
--
-- `types` and `names` are the types and the names of the goal's variables, by number. The first
-- `own` variables are those of the procedure and of its encoding; each of the others replaces a
-- binder.
pub record Goal : Type 0 where
  pub upper : Bool
  pub stated : Form
  pub found : Form
  pub types : List Ty
  pub names : List (List ℕ)
  pub own : ℕ

-- The plain goal of a goal of the code.
abbrev pub goal_of : declared.Goal → Goal
goal_of g = record {
  upper = g.upper;
  stated = form_of g.stated;
  found = form_of g.found;
  types = g.vars.items;
  names = g.names.items;
  own = g.own;
}

-- `Compares upper stated found`: `found` <= `stated` if `upper`, otherwise `stated` <= `found`.
abbrev pub Compares : Bool → Value → Value → Type 0
Compares true stated found = found ≤ᵛ stated
Compares false stated found = stated ≤ᵛ found

-- `HoldsIn g s`: the inequality of the goal `g` holds in the environment `s`. The forms of a
-- well-formed goal have no binder, and hence need no choices. For example, the upper goal with the
-- stated bound `x0` and the computed form 1 holds in the environments in which `x0` is at least 1.
abbrev pub HoldsIn : Goal → Env → Type 0
HoldsIn g s = Compares g.upper (value g.stated s Choices.stop) (value g.found s Choices.stop)

-- `Holds g`: the inequality of the goal `g` holds for all values of its variables, each of its
-- type.
abbrev pub Holds : Goal → Type 0
Holds g = (s : List Val) → IsTyped g.types s → HoldsIn g (environment s)
