-- Splits of integer variables: after the last comparison of a path, an `Int` or `UInt` variable is
-- at most an integer, or at least the next one. This project's own.
use Rattle.std.specs.Prelude.{◌≡◌, ℕ, ℤ, List, true, false}
use Rattle.heyvl_num.specs.Rounding.{whole}
use Rattle.heylo_formula.specs.declared.types.Ty.{Ty}
use Rattle.heylo_formula.specs.Typing.{types_in}
use Rattle.linear_rows.specs.VariableTypes.{is_integral}
use Rattle.linear_values.specs.Lin.{constant, variable, minus}
use Rattle.linear_form.specs.Query.{Atom, Taken}

-- `split_at x m`: the comparison `x <= m`, written `x - m <= 0`.
abbrev pub split_at : ℕ → ℤ → Atom
split_at x m = Atom.row (minus (variable x) (constant (whole m))) false

-- `IsSplit types p`: `p` answers a split of a variable of type `Int` or `UInt`.
pub record IsSplit (types : List Ty) (p : Taken) : Type 0 where
  pub var : ℕ
  pub bound : ℤ
  pub whole_type : is_integral (types_in types var) ≡ true
  pub atom : p.atom ≡ split_at var bound
