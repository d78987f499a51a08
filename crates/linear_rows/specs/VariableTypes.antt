-- Types of variables, and rows over numeric variables.
use Rattle.std.specs.Prelude.{Bool, true, false, ◌≡◌, List, not}
use Rattle.heylo_formula.specs.declared.types.Ty.{Ty}
use Rattle.std.specs.List.{All}
use Rattle.linear_rows.specs.Row.{Row}
use Rattle.heylo_formula.specs.Typing.{types_in, is_bool}

-- `is_integral ty`: `ty` is a type of integers, `Int` or `UInt`.
abbrev pub is_integral : Ty → Bool
is_integral Ty.Bool = false
is_integral Ty.Int = true
is_integral Ty.UInt = true
is_integral Ty.UReal = false

-- `is_numeric ty`: `ty` is a type of numbers: not `Bool`.
abbrev pub is_numeric : Ty → Bool
is_numeric ty = not (is_bool ty)

-- `IsNumericRow types r`: each variable of the row `r` has a numeric type.
pub record IsNumericRow (types : List Ty) (r : Row) : Type 0 where
  pub numeric : All (λ t. is_numeric (types_in types t.0) ≡ true) r.terms
