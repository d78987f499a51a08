-- Points as a list of numerators over one denominator. Source: linear arithmetic over the
-- rationals.
use Rattle.std.specs.Prelude.{ℕ, List, ℤ, pos, get_or}
use Rattle.std.specs.List.{All}
use Rattle.linear_rows.specs.Points.{IsMetAt}
use Rattle.linear_rows.specs.Row.{Row}

-- `top_at tops x`: the numerator of the variable `x`, 0 beyond the list.
abbrev pub top_at : List ℤ → ℕ → ℤ
top_at tops x = get_or tops x (pos 0)

-- `IsMetBy below tops r`: the point with the numerators `tops` over `below` satisfies the row `r`.
abbrev pub IsMetBy : ℕ → List ℤ → Row → Type 0
IsMetBy below tops r = IsMetAt below (top_at tops) r

-- `AreMetBy below tops rows`: the point satisfies each row.
abbrev pub AreMetBy : ℕ → List ℤ → List Row → Type 0
AreMetBy below tops rows = All (IsMetBy below tops) rows
