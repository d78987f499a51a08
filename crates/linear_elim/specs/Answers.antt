-- The meaning of each answer of the elimination.
use Rattle.std.specs.Prelude.{◌≡◌, ℕ, List, map, length, true, Some}
use Rattle.std.specs.List.{All}
use Rattle.heyvl_num.specs.Rational.{Rational, ◌≤ʳ◌}
use Rattle.heylo_formula.specs.State.{environment, number_of}
use Rattle.heylo_formula.specs.declared.types.Ty.{Ty}
use Rattle.heylo_formula.specs.declared.values.Val.{Val}
use Rattle.heylo_formula.specs.declared.values.Val.TheVariants.{Num}
use Rattle.linear_rows.specs.Numbers.{fits}
use Rattle.linear_rows.specs.Terms.{coefficient}
use Rattle.linear_rows.specs.Row.{Row}
use Rattle.linear_rows.specs.Solutions.{MeetsAt, IsSolvable}
use Rattle.linear_rows.specs.Combination.{IsContradiction, IsWideThroughout}
use Rattle.linear_rows.specs.VariableOrder.{order_of}
use Rattle.linear_rows.specs.GreedyPoint.{Interval, Greedy, ChoosesFrom, IsGreedyPoint}
use Rattle.linear_elim.specs.Joins.{Derived}
use Rattle.linear_elim.specs.ChoiceNumbers.{IsChoiceTooGreat}
use Rattle.linear_elim.specs.Elimination as plain
use Rattle.linear_elim.specs.Elimination.{Step, elimination_by, multipliers}
use Rattle.linear_elim.specs.Elimination.Rule.{keeps, drops}
use Rattle.goal_answers.specs.declared.causes.Broken.{Broken}
use Rattle.linear_elim.specs.declared.answers.Elim.{Elim}
use Rattle.linear_elim.specs.declared.answers.Elim.TheVariants.{NoSolution, Point, Fraction, Rows}
use Rattle.linear_elim.specs.declared.answers.Elim.TheVariants.{Bits}

-- `eliminated_by rule rows vars`: the outcome of the elimination by `rule`, in the order of
-- `order_of`.
abbrev pub eliminated_by : plain.Rule → List Row → List Ty → plain.Outcome
eliminated_by rule rows vars = elimination_by rule (order_of rows (length vars)) rows

-- `eliminated rows vars`: the outcome of the plain elimination.
abbrev pub eliminated : List Row → List Ty → plain.Outcome
eliminated rows vars = eliminated_by keeps rows vars

-- `MeetsAll point rows`: the state `point` satisfies the rows.
abbrev pub MeetsAll : List Val → List Row → Type 0
MeetsAll point rows = All (MeetsAt (λ x. number_of (environment point x))) rows

-- `AreNarrow point`: the numerators and denominators of all numbers are below 2^62 in absolute
-- value.
abbrev pub AreNarrow : List Val → Type 0
AreNarrow point = All (λ v. fits (number_of v) ≡ true) point

-- `values_of chosen`: the chosen numbers as values.
abbrev pub values_of : List (ℕ × Rational) → List (ℕ × Val)
values_of chosen = map (λ c. (c.0, Num c.1)) chosen

-- `ends_of b`: the interval in which the choice finds no integer.
abbrev pub ends_of : Broken → Interval
ends_of b = record {
  low = Some (record { place = b.low; inside = b.low_in });
  high = Some (record { place = b.high; inside = b.high_in });
}

-- `IsBreak rows vars b`: the rows are solvable, and the greedy choice breaks at the variable of
-- `b`, after the values of `b`, in the interval of `b`.
pub record IsBreak (rows : List Row) (vars : List Ty) (b : Broken) : Type 0 where
  pub solvable : IsSolvable rows
  pub chosen : List (ℕ × Rational)
  pub choice : ChoosesFrom rows vars (Greedy.broke b.var chosen (ends_of b))
  pub earlier : b.earlier.items ≡ values_of chosen
  pub ordered : b.low ≤ʳ b.high

-- `HasNarrowEnds b`: the numerators and denominators of the two ends of `b` are below 2^62 in
-- absolute value.
pub record HasNarrowEnds (b : Broken) : Type 0 where
  pub low : fits b.low ≡ true
  pub high : fits b.high ≡ true

-- `IsWide ms rows`: no partial sum of the combination of `rows` by `ms` reaches 2^126.
pub record IsWide (ms : List (ℕ × ℕ)) (rows : List Row) : Type 0 where
  pub coefficients : (x : ℕ) → IsWideThroughout (λ r. coefficient x r.terms) ms rows
  pub constants : IsWideThroughout (λ r. r.rest) ms rows

-- `IsTooGreatBy rule rows vars`: a number overflows: in a step of the elimination, in a partial sum
-- of the combination that refutes the rows, or in the greedy choice.
pub data IsTooGreatBy (rule : plain.Rule) (rows : List Row) (vars : List Ty) : Type 0 where
  in_a_step : eliminated_by rule rows vars ≡ plain.Outcome.too_great → IsTooGreatBy rule rows vars
  in_a_sum : (c : Derived) → eliminated_by rule rows vars ≡ plain.Outcome.refuted c
      → (IsWide (multipliers c) rows → ⊥) → IsTooGreatBy rule rows vars
  in_a_choice : (steps : List Step) → eliminated_by rule rows vars ≡ plain.Outcome.standing steps
      → IsChoiceTooGreat rows vars steps → IsTooGreatBy rule rows vars

-- `IsTooGreat rows vars`: a number overflows in the plain elimination.
abbrev pub IsTooGreat : List Row → List Ty → Type 0
IsTooGreat rows vars = IsTooGreatBy keeps rows vars

-- `IsShortLimited rows vars`: the elimination without dominated rows reaches a limit: more than
-- 4,096 rows, or an overflow.
pub data IsShortLimited (rows : List Row) (vars : List Ty) : Type 0 where
  many : (steps count : ℕ) → eliminated_by drops rows vars ≡ plain.Outcome.too_many steps count
      → IsShortLimited rows vars
  great : IsTooGreatBy drops rows vars → IsShortLimited rows vars

-- `IsAnswer rows vars e`: `e` is an answer on `rows`. The limits are those of the plain
-- elimination, and are reported only if the elimination without dominated rows reaches a limit too.
abbrev pub IsAnswer : List Row → List Ty → Elim → Type 0
IsAnswer rows vars (NoSolution ms) = IsContradiction ms.items rows
IsAnswer rows vars (Point point) = IsGreedyPoint rows vars point.items × MeetsAll point.items rows
    × AreNarrow point.items
IsAnswer rows vars (Fraction b) = IsBreak rows vars b × HasNarrowEnds b
IsAnswer rows vars (Rows steps count) = (eliminated rows vars ≡ plain.Outcome.too_many steps count)
    × IsShortLimited rows vars
IsAnswer rows vars Bits = IsTooGreat rows vars × IsShortLimited rows vars

-- `Settles rows e`: the answer `e` decides whether `rows` are solvable, unless it is a limit:
-- multipliers if they are not, a point or a break of the choice if they are.
abbrev pub Settles : List Row → Elim → Type 0
Settles rows (NoSolution ms) = IsSolvable rows → ⊥
Settles rows (Point point) = IsSolvable rows
Settles rows (Fraction b) = IsSolvable rows
Settles rows (Rows steps count) = Unit {0}
Settles rows Bits = Unit {0}
