-- The results of parts, and the trees that continue with them.
use Rattle.std.specs.Prelude.{Bool}
use Rattle.linear_form.specs.Query.{Query, next}
use Rattle.linear_form.specs.Query.Query.{done, bits}
use Rattle.linear_values.specs.Lin.{Linear}
use Rattle.linear_form.specs.Questions.{Ends}
use Rattle.linear_values.specs.Kept.{IsKeptValue}

-- The result of a part: a value, a truth, or the values of both forms.
pub data Result : Type 0 where
  number : Linear → Result
  truth : Bool → Result
  ends : Ends → Result

abbrev pub valued : Query Linear → Query Result
valued q = next q (λ x. done (Result.number x))

abbrev pub told : Query Bool → Query Result
told q = next q (λ t. done (Result.truth t))

-- `of_number f r`: the tree `f x` for a value `x`. A truth never occurs where a value is expected.
abbrev pub of_number : (Linear → Query Result) → Result → Query Result
of_number f (Result.number x) = f x
of_number f (Result.truth t) = bits
of_number f (Result.ends e) = bits

-- `of_bool f r`: the tree `f t` for a truth `t`. A value never occurs where a truth is expected.
abbrev pub of_bool : (Bool → Query Result) → Result → Query Result
of_bool f (Result.number x) = bits
of_bool f (Result.truth t) = f t
of_bool f (Result.ends e) = bits

-- `IsKeptResult r`: a value has increasing terms and numbers that fit.
abbrev pub IsKeptResult : Result → Type 0
IsKeptResult (Result.number x) = IsKeptValue x
IsKeptResult (Result.truth t) = Unit {0}
IsKeptResult (Result.ends e) = Unit {0}
