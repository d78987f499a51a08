-- The result of the greedy choice for the rows of a path with the denied goal. The choice *breaks*
-- at a variable whose interval contains no integer. This project's own.
use Rattle.std.specs.Prelude.{◌≡◌, ℕ, List, [], ◌∷◌, true, Bool, Option, Some, None}
use Prim.Native.Nat.{suc}
use Rattle.std.specs.List.{All}
use Rattle.heyvl_num.specs.Rational.{Rational}
use Rattle.heylo_formula.specs.Goals.{Goal}
use Rattle.heylo_formula.specs.State.{has}
use Rattle.heylo_formula.specs.Typing.{types_in}
use Rattle.heylo_formula.specs.declared.values.Val.{Val}
use Rattle.heylo_formula.specs.declared.values.Val.TheVariants.{Truth}
use Rattle.goal_answers.specs.declared.causes.Broken.{Broken}
use Rattle.linear_elim.specs.Answers.{IsBreak}
use Rattle.linear_form.specs.PathRows.{rows_of}
use Rattle.linear_form.specs.Query.{Taken, known}
use Rattle.linear_rows.specs.GreedyPoint.{Interval, Greedy, ChoosesFrom, IsGreedyPoint}
use Rattle.linear_rows.specs.Row.{Row}
use Rattle.linear_rows.specs.Solutions.{IsSolvable}

-- `value_on b v`: the truth `b` of a Boolean that the path has decided, otherwise the value `v`.
abbrev pub value_on : Option Bool → Val → Val
value_on (Some b) v = Truth b
value_on None v = v

-- `with_truths ps x vs`: the values `vs` of the variables from `x` on, with the truths that the
-- path `ps` has decided.
abbrev pub with_truths : List Taken → ℕ → List Val → List Val
with_truths ps x [] = []
with_truths ps x (v ∷ vs) = value_on (known x ps) v ∷ with_truths ps (suc x) vs

-- `IsPointOf g ps point`: the rows of the path `ps` with the denied goal are solvable, and `point`
-- is their greedy point, with the truths that the path has decided.
pub record IsPointOf (g : Goal) (ps : List Taken) (point : List Val) : Type 0 where
  pub rows : List Row
  pub are_rows : rows_of g ps true ≡ Some rows
  pub values : List Val
  pub greedy : IsGreedyPoint rows g.types values
  pub truths : point ≡ with_truths ps 0 values

-- `IsBreakOf g ps b`: the greedy choice for the rows of the path `ps` with the denied goal breaks
-- as `b` says, and the values before the break have the types of their variables.
pub record IsBreakOf (g : Goal) (ps : List Taken) (b : Broken) : Type 0 where
  pub rows : List Row
  pub are_rows : rows_of g ps true ≡ Some rows
  pub broken : IsBreak rows g.types b
  pub typed : All (λ c. has (types_in g.types c.0) c.1 ≡ true) b.earlier.items

-- `Breaks g ps`: the rows of the path `ps` with the denied goal are solvable, and the greedy choice
-- for them breaks.
pub record Breaks (g : Goal) (ps : List Taken) : Type 0 where
  pub rows : List Row
  pub are_rows : rows_of g ps true ≡ Some rows
  pub solvable : IsSolvable rows
  pub var : ℕ
  pub earlier : List (ℕ × Rational)
  pub interval : Interval
  pub choice : ChoosesFrom rows g.types (Greedy.broke var earlier interval)
