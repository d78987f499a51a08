-- The lists of rows that the program returns.
use Rattle.std.specs.Prelude.{◌≡◌, ℕ, List, [], ◌∷◌, ◌++◌, take, length, Option, Some, None}
use Rattle.std.specs.List.{All}
use Rattle.heylo_formula.specs.declared.types.Ty.{Ty}
use Rattle.heylo_formula.specs.Goals.{Goal}
use Rattle.linear_rows.specs.Row.{Row, IsRow}
use Rattle.linear_form.specs.Query.{Taken}
use Rattle.linear_values.specs.Tightening.{all_tightened}
use Rattle.linear_form.specs.PathRows.{path_claims, answer_claims}
use Rattle.heylo_formula.specs.Typing.{types_in}
use Rattle.linear_form.specs.declared.path_rows.RowList.{RowList}
use Rattle.linear_form.specs.declared.path_rows.RowList.TheVariants.{Rows, Bits}
use Rattle.linear_rows.specs.VariableTypes.{IsNumericRow}

-- `Lists l found`: the list `l` contains the rows `found`, or it is `Bits` if there are none
-- because of an overflow.
abbrev pub Lists : RowList → Option (List Row) → Type 0
Lists (Rows rows) found = found ≡ Some rows.items
Lists Bits found = found ≡ None

-- `AreRows l`: the variables of each row of `l` increase, no coefficient is 0, and each number is
-- below 2^62 in absolute value.
abbrev pub AreRows : RowList → Type 0
AreRows (Rows rows) = All IsRow rows.items
AreRows Bits = Unit {0}

-- `AreNumericRows types l`: each variable of the rows of `l` has a type of numbers.
abbrev pub AreNumericRows : List Ty → RowList → Type 0
AreNumericRows types (Rows rows) = All (IsNumericRow types) rows.items
AreNumericRows types Bits = Unit {0}

-- `count_of l`: the number of rows of `l`.
abbrev pub count_of : RowList → ℕ
count_of (Rows rows) = length rows.items
count_of Bits = 0

-- `ArePathRows g ps rows`: `rows` are the rows of the answered comparisons of the path `ps`, in
-- order.
pub record ArePathRows (g : Goal) (ps : List Taken) (rows : List Row) : Type 0 where
  pub are_rows : all_tightened (types_in g.types) (path_claims ps) ≡ Some rows

-- `LackLastRow g ps rows`: `rows` are the rows of the answered comparisons of the path `ps` without
-- its last answer.
pub record LackLastRow (g : Goal) (ps : List Taken) (rows : List Row) : Type 0 where
  pub before : List Taken
  pub last : Taken
  pub split : ps ≡ before ++ (last ∷ [])
  pub are_rows : ArePathRows g before rows

-- `AreLastRows g ps r`: `r` contains the row of the last answer of the path `ps`, and none if this
-- answer is the truth of a Boolean.
abbrev pub AreLastRows : Goal → List Taken → RowList → Type 0
AreLastRows g ps r = (before : List Taken) (last : Taken) → ps ≡ before ++ (last ∷ [])
    → Lists r (all_tightened (types_in g.types) (answer_claims last.atom last.held))

-- `StartsWith first l`: the rows of `l` begin with the rows `first`.
abbrev pub StartsWith : List Row → RowList → Type 0
StartsWith first (Rows rows) = take (length first) rows.items ≡ first
StartsWith first Bits = Unit {0}
