-- The answers of the plain elimination of the program.
use Rattle.std.specs.Prelude.{◌≡◌, List}
use Rattle.heylo_formula.specs.declared.types.Ty.{Ty}
use Rattle.linear_rows.specs.Row.{Row}
use Rattle.linear_elim.specs.Elimination.Outcome.{too_many}
use Rattle.linear_elim.specs.Answers.{eliminated, IsTooGreat, IsAnswer}
use Rattle.linear_elim.specs.declared.answers.Elim.{Elim}
use Rattle.linear_elim.specs.declared.answers.Elim.TheVariants.{NoSolution, Point, Fraction, Rows}
use Rattle.linear_elim.specs.declared.answers.Elim.TheVariants.{Bits}

-- `IsPlainAnswer rows vars e`: `e` is an answer of the plain elimination alone.
abbrev pub IsPlainAnswer : List Row → List Ty → Elim → Type 0
IsPlainAnswer rows vars (NoSolution ms) = IsAnswer rows vars (NoSolution ms)
IsPlainAnswer rows vars (Point point) = IsAnswer rows vars (Point point)
IsPlainAnswer rows vars (Fraction b) = IsAnswer rows vars (Fraction b)
IsPlainAnswer rows vars (Rows steps count) = eliminated rows vars ≡ too_many steps count
IsPlainAnswer rows vars Bits = IsTooGreat rows vars
