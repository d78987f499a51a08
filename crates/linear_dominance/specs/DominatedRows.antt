-- Rows that another row implies, because each variable with a larger coefficient there is not
-- negative. This project's own.
use Rattle.std.specs.Prelude.{ℕ, List, [], ◌∷◌, map, ℤ, pos, negsuc, Bool, true, false, not, ◌&&◌}
use Rattle.std.specs.Prelude.{◌||◌}
use Rattle.std.specs.List.{filter, list_any}
use Rattle.std.specs.Int.Signed.{lt_z}
use Rattle.heyvl_num.specs.Value.{is_zero_num}
use Rattle.linear_rows.specs.Terms.{is_in, add_terms}
use Rattle.linear_rows.specs.Row.{Row}
use Rattle.linear_rows.specs.SameTerms.{same_terms}

-- `first_variable ts`: the variable of the first term, 0 if there is none.
abbrev pub first_variable : List (ℕ × ℤ) → ℕ
first_variable [] = 0
first_variable (t ∷ ts) = t.0

-- `is_sign_row r`: the row `r` is `-x <= 0` for a variable `x`.
abbrev pub is_sign_row : Row → Bool
is_sign_row r = same_terms r.terms ((first_variable r.terms, negsuc 0) ∷ [])
    && (is_zero_num r.rest && not r.strict)

-- `signed_variables rows`: the variables whose sign rows are among `rows`.
abbrev pub signed_variables : List Row → List ℕ
signed_variables rows = map (λ r. first_variable r.terms) (filter is_sign_row rows)

-- `less ts us`: the difference `ts - us`.
abbrev pub less : List (ℕ × ℤ) → List (ℕ × ℤ) → List (ℕ × ℤ)
less ts us = add_terms (negsuc 0) us ts

-- `are_increases signed ts`: each coefficient of `ts` is above 0, and its variable is one of
-- `signed`.
unfoldable pub are_increases : List ℕ → List (ℕ × ℤ) → Bool
are_increases signed [] = true
are_increases signed (t ∷ ts) = (lt_z (pos 0) t.1 && is_in t.0 signed) && are_increases signed ts

-- `is_increase signed ts`: there are terms, and `are_increases signed ts`.
abbrev pub is_increase : List ℕ → List (ℕ × ℤ) → Bool
is_increase signed [] = false
is_increase signed (t ∷ ts) = are_increases signed (t ∷ ts)

-- `dominates signed s r`: the row `s` implies the row `r` and has other terms. Each coefficient
-- that differs is larger in `s`, and its variable is one of `signed`; the constant of `s` is at
-- least that of `r`; and `s` is strict if `r` is. If `x` is not negative, `2*x + y + 3 <= 0`
-- dominates `x + y + 1 <= 0`.
abbrev pub dominates : List ℕ → Row → Row → Bool
dominates signed s r = is_increase signed (less s.terms r.terms)
    && (not (lt_z s.rest r.rest) && (s.strict || not r.strict))

-- `is_dominated rows r`: another row of `rows` dominates `r`, by the sign rows among `rows`. Sign
-- rows themselves are never dominated.
abbrev pub is_dominated : List Row → Row → Bool
is_dominated rows r = not (is_sign_row r)
    && list_any (λ s. dominates (signed_variables rows) s r) rows

-- `undominated rows`: the rows that no other row dominates, in order.
abbrev pub undominated : List Row → List Row
undominated rows = filter (λ r. not (is_dominated rows r)) rows
