-- The laws of the greedy choice.
use Rattle.std.specs.Prelude.{◌≡◌, List}
use Rattle.heylo_formula.specs.declared.types.Ty.{Ty}
use Rattle.heylo_formula.specs.declared.values.Val.{Val}
use Rattle.linear_rows.specs.Row.{Row}
use Rattle.linear_rows.specs.Solutions.{IsSolvable}
use Rattle.linear_rows.specs.GreedyPoint.{Greedy, ChoosesFrom, IsGreedyPoint}

-- The greedy choice for solvable rows has one outcome: the same values, or the same variable, after
-- the same values, with the same interval.
abbrev pub ChoicesAreUnique : Type 0
ChoicesAreUnique = (rows : List Row) (vars : List Ty) (a b : Greedy) → IsSolvable rows
    → ChoosesFrom rows vars a → ChoosesFrom rows vars b → a ≡ b

-- Rows have at most one greedy point.
abbrev pub PointsAreUnique : Type 0
PointsAreUnique = (rows : List Row) (vars : List Ty) (p q : List Val) → IsGreedyPoint rows vars p
    → IsGreedyPoint rows vars q → p ≡ q
