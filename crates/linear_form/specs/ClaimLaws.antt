-- Laws of the claims of a path.
use Rattle.std.specs.Prelude.{◌≡◌, List, true, false, Some}
use Rattle.heylo_formula.specs.Goals.{Goal, HoldsIn}
use Rattle.heylo_formula.specs.State.{IsTyped, environment, number_of}
use Rattle.heylo_formula.specs.declared.values.Val.{Val}
use Rattle.linear_form.specs.Query.{Taken}
use Rattle.linear_form.specs.Paths.{IsPath, Agrees}
use Rattle.heylo_formula.specs.TypedGoals.{IsTypedGoal}
use Rattle.linear_form.specs.PathRows.{claims_of, rows_of}
use Rattle.linear_rows.specs.Row.{Row}
use Rattle.linear_rows.specs.Solutions.{MeetsAt}
use Rattle.std.specs.List.{All}
use Rattle.linear_values.specs.Claims.{AllClaimed}

-- The claims of a path's answers, and of the signs of unsigned variables, hold in each state of the
-- right types that agrees with the path.
abbrev pub AnswersClaimTruths : Type 0
AnswersClaimTruths = (g : Goal) (s : List Val) (ps : List Taken) → IsTyped g.types s
    → Agrees (environment s) ps → AllClaimed (environment s) (claims_of g ps false)

-- With the denied goal among them, the claims of a path hold in each state that agrees with the
-- path and in which the goal fails.
abbrev pub DenialsClaimTruths : Type 0
DenialsClaimTruths = (g : Goal) (s : List Val) (ps : List Taken) → IsTypedGoal g → IsTyped g.types s
    → IsPath g ps → Agrees (environment s) ps → (HoldsIn g (environment s) → ⊥)
    → AllClaimed (environment s) (claims_of g ps true)

-- Each state of the right types that agrees with a path satisfies the rows of the path without the
-- denied goal.
abbrev pub RowsAreMet : Type 0
RowsAreMet = (g : Goal) (s : List Val) (ps : List Taken) (rows : List Row) → IsTyped g.types s
    → IsPath g ps → Agrees (environment s) ps → rows_of g ps false ≡ Some rows
    → All (MeetsAt (λ x. number_of (environment s x))) rows

-- Each state that agrees with a path and in which the goal fails satisfies the rows of the path
-- with the denied goal.
abbrev pub DeniedRowsAreMet : Type 0
DeniedRowsAreMet = (g : Goal) (s : List Val) (ps : List Taken) (rows : List Row) → IsTypedGoal g
    → IsTyped g.types s → IsPath g ps → Agrees (environment s) ps → (HoldsIn g (environment s) → ⊥)
    → rows_of g ps true ≡ Some rows → All (MeetsAt (λ x. number_of (environment s x))) rows
