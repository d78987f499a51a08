-- Laws of the points that satisfy the rows of a path.
use Rattle.std.specs.Prelude.{◌≡◌, ℕ, ◌<◌, List, length, Bool, true, Some}
use Rattle.std.specs.List.{All}
use Rattle.heyvl_num.specs.Rational.{zeroʳ, ◌≤ʳ◌}
use Rattle.heylo_formula.specs.Goals.{Goal, HoldsIn}
use Rattle.heylo_formula.specs.State.{Env, IsTyped, environment, number_of, truth_of}
use Rattle.heylo_formula.specs.Typing.{is_bool, types_in}
use Rattle.heylo_formula.specs.declared.values.Val.{Val}
use Rattle.linear_form.specs.Query.{Taken, known}
use Rattle.linear_form.specs.Query.Query.{done}
use Rattle.linear_form.specs.Questions.{Ends}
use Rattle.linear_form.specs.Paths.{IsPath, Agrees, end_at}
use Rattle.linear_form.specs.PathRows.{rows_of, IsPlainAt, is_unsigned_type}
use Rattle.linear_rows.specs.Row.{Row}
use Rattle.linear_rows.specs.Solutions.{MeetsAt}
use Rattle.heylo_formula.specs.TypedGoals.{IsTypedGoal, HasItsVariables}
use Rattle.linear_rows.specs.VariableOrder.{occurrences}

-- `HasTruths s ps`: each Boolean that the path `ps` has decided has this truth in the state `s`.
abbrev pub HasTruths : Env → List Taken → Type 0
HasTruths s ps = (x : ℕ) (b : Bool) → known x ps ≡ Some b → truth_of (s x) ≡ b

-- A state that has the truths of a path and satisfies its rows agrees with the path, with or
-- without the denied goal among the rows.
abbrev pub PointsAgree : Type 0
PointsAgree = (g : Goal) (ps : List Taken) (denied : Bool) (rows : List Row) (s : Env) → IsPath g ps
    → rows_of g ps denied ≡ Some rows → HasTruths s ps → All (MeetsAt (λ x. number_of (s x))) rows
    → Agrees s ps

-- If a path is at an end at which the goal does not hold trivially, the goal fails in each state of
-- the right types that has the truths of the path and satisfies its rows with the denied goal.
abbrev pub PointsFalsify : Type 0
PointsFalsify = (g : Goal) (ps : List Taken) (e : Ends) (rows : List Row) (s : List Val)
    → IsTypedGoal g → IsTyped g.types s → IsPath g ps → end_at g ps ≡ done e → (IsPlainAt g ps → ⊥)
    → rows_of g ps true ≡ Some rows → HasTruths (environment s) ps
    → All (MeetsAt (λ x. number_of (environment s x))) rows → HoldsIn g (environment s) → ⊥

-- A path of a typed goal decides only Booleans.
abbrev pub TruthsAreBooleans : Type 0
TruthsAreBooleans = (g : Goal) (ps : List Taken) (x : ℕ) (b : Bool) → IsTypedGoal g → IsPath g ps
    → known x ps ≡ Some b → is_bool (types_in g.types x) ≡ true

-- A path decides only Booleans that are variables of its goal.
abbrev pub TruthsHaveVariables : Type 0
TruthsHaveVariables = (g : Goal) (ps : List Taken) (x : ℕ) (b : Bool) → HasItsVariables g
    → IsPath g ps → known x ps ≡ Some b → x < length g.types

-- An unsigned variable that occurs in the rows of a path is not negative in a solution of the rows.
abbrev pub UnsignedAreNonnegative : Type 0
UnsignedAreNonnegative = (g : Goal) (ps : List Taken) (denied : Bool) (rows : List Row) (s : Env)
    (x : ℕ) → IsPath g ps → rows_of g ps denied ≡ Some rows
    → All (MeetsAt (λ v. number_of (s v))) rows → x < length g.types
    → is_unsigned_type (types_in g.types x) ≡ true → 0 < occurrences x rows
    → zeroʳ ≤ʳ number_of (s x)
