-- Rows, followed by further rows.
use Rattle.std.specs.Prelude.{ℕ, pos, negsuc, false, List, [], ◌∷◌, ◌++◌, ◌&&◌, Option, Some, None}
use Rattle.std.specs.Prelude.{if◌then◌else◌}
use Rattle.std.specs.List.{list_any}
use Prim.Native.Nat.{zero, suc}
use Rattle.heylo_formula.specs.Typing.{Types}
use Rattle.linear_rows.specs.Row.{Row}
use Rattle.linear_values.specs.Tightening.{Claim, all_tightened}
use Rattle.linear_rows.specs.VariableOrder.{occurs_in_row}
use Rattle.linear_form.specs.PathRows.{is_unsigned_type}

abbrev pub followed_by : List Row → Option (List Row) → Option (List Row)
followed_by rows (Some more) = Some (rows ++ more)
followed_by rows None = None

-- `rows_with types rows ks`: the rows `rows`, followed by those of the claims `ks`.
abbrev pub rows_with : Types → List Row → List Claim → Option (List Row)
rows_with types rows ks = followed_by rows (all_tightened types ks)

-- `unsigned_in types rows x`: the variable `x` if it is unsigned and occurs in `rows`.
abbrev pub unsigned_in : Types → List Row → ℕ → Option ℕ
unsigned_in types rows x = if is_unsigned_type (types x) && list_any (occurs_in_row x) rows
    then Some x else None

-- `sign_row x`: the row `-x <= 0`.
abbrev pub sign_row : ℕ → Row
sign_row x = record { terms = (x, negsuc 0) ∷ []; rest = pos 0; strict = false }

abbrev pub one_more : List ℕ → Option ℕ → List ℕ
one_more xs (Some x) = xs ++ (x ∷ [])
one_more xs None = xs

-- `all_unsigned_in types rows n`: the unsigned variables below `n` that occur in `rows`, in order.
abbrev pub all_unsigned_in : Types → List Row → ℕ → List ℕ
all_unsigned_in types rows zero = []
all_unsigned_in types rows (suc n) =
    one_more (all_unsigned_in types rows n) (unsigned_in types rows n)
