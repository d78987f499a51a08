-- One step of elimination, and the rules that keep the number of rows small.
use Rattle.std.specs.Prelude.{ℕ, List, [], ◌∷◌, ◌++◌, map, ℤ, pos, Bool, true, false, cond, ◌||◌}
use Rattle.std.specs.Prelude.{◌&&◌, not, Option, Some, None}
use Rattle.std.specs.List.{filter}
use Rattle.std.specs.Int.Signed.{lt_z}
use Rattle.heyvl_num.specs.Value.{is_zero_num}
use Rattle.linear_rows.specs.Terms.{coefficient}
use Rattle.linear_rows.specs.Row.{Row}
use Rattle.linear_dominance.specs.DominatedRows.{is_dominated}
use Rattle.linear_elim.specs.Joins.{Derived, is_below_zero, is_above_zero, join, join_fits}
use Rattle.linear_rows.specs.SameTerms.{same_number, same_terms}

-- `lowers x rows`: the rows that bound `x` from below, which have a negative coefficient of `x`.
abbrev pub lowers : ℕ → List Derived → List Derived
lowers x rows = filter (λ r. is_below_zero (coefficient x r.row.terms)) rows

-- `uppers x rows`: the rows that bound `x` from above, which have a positive coefficient of `x`.
abbrev pub uppers : ℕ → List Derived → List Derived
uppers x rows = filter (λ r. is_above_zero (coefficient x r.row.terms)) rows

-- `kept x rows`: the rows without `x`.
abbrev pub kept : ℕ → List Derived → List Derived
kept x rows = filter (λ r. is_zero_num (coefficient x r.row.terms)) rows

-- `joins x l us`: the combinations of the row `l` with each of `us`, in which `x` vanishes.
abbrev pub joins : ℕ → Derived → List Derived → List Derived
joins x l us = map (join x l) us

-- `pairs x ls us`: the combinations of each of `ls` with each of `us`, in order.
unfoldable pub pairs : ℕ → List Derived → List Derived → List Derived
pairs x [] us = []
pairs x (l ∷ ls) us = joins x l us ++ pairs x ls us

-- `eliminate_one x rows`: the rows without `x`, followed by the combination of each lower bound of
-- `x` with each upper bound.
abbrev pub eliminate_one : ℕ → List Derived → List Derived
eliminate_one x rows = kept x rows ++ pairs x (lowers x rows) (uppers x rows)

-- `fits_each x l us`: the combinations of `l` with each of `us` fit.
unfoldable pub fits_each : ℕ → Derived → List Derived → Bool
fits_each x l [] = true
fits_each x l (u ∷ us) = join_fits x l u && fits_each x l us

-- `pairs_fit x ls us`: the combinations of each of `ls` with each of `us` fit.
unfoldable pub pairs_fit : ℕ → List Derived → List Derived → Bool
pairs_fit x [] us = true
pairs_fit x (l ∷ ls) us = fits_each x l us && pairs_fit x ls us

-- `step_fits x rows`: each combination of the step of `x` fits.
abbrev pub step_fits : ℕ → List Derived → Bool
step_fits x rows = pairs_fit x (lowers x rows) (uppers x rows)

-- `is_stronger r k`: `r` has a larger constant than `k`, or the same constant and only `r` is
-- strict.
abbrev pub is_stronger : Row → Row → Bool
is_stronger r k = lt_z k.rest r.rest || (same_number k.rest r.rest && (r.strict && not k.strict))

-- `put_row r ks`: the rows `ks` with `r` added: of two rows with the same terms the stronger one
-- stays, at the place of the first.
unfoldable pub put_row : Derived → List Derived → List Derived
put_row r [] = r ∷ []
put_row r (k ∷ ks) = cond (same_terms k.row.terms r.row.terms)
    (cond (is_stronger r.row k.row) r k ∷ ks) (k ∷ put_row r ks)

-- `strongest ks rs`: the rows `ks` with each of `rs` added, in order.
unfoldable pub strongest : List Derived → List Derived → List Derived
strongest ks [] = ks
strongest ks (r ∷ rs) = strongest (put_row r ks) rs

-- `has_terms ts`: the list `ts` is not empty.
abbrev pub has_terms : List (ℕ × ℤ) → Bool
has_terms [] = false
has_terms (t ∷ ts) = true

-- `tidied rows`: the rows with variables, of those with the same terms only the strongest.
abbrev pub tidied : List Derived → List Derived
tidied rows = strongest [] (filter (λ r. has_terms r.row.terms) rows)

-- `bare rows`: the rows without their multipliers.
abbrev pub bare : List Derived → List Row
bare rows = map (λ d. d.row) rows

-- `undominated rows`: the rows that no other row dominates, in order.
abbrev pub undominated : List Derived → List Derived
undominated rows = filter (λ d. not (is_dominated (bare rows) d.row)) rows

-- `is_contradiction r`: the row `r` has no variables and is false: its constant is above 0, or it
-- is 0 and `r` is strict.
abbrev pub is_contradiction : Row → Bool
is_contradiction r = not (has_terms r.terms)
    && (lt_z (pos 0) r.rest || (is_zero_num r.rest && r.strict))

-- `contradiction rows`: the first contradiction among `rows`.
unfoldable pub contradiction : List Derived → Option Derived
contradiction [] = None
contradiction (r ∷ rs) = cond (is_contradiction r.row) (Some r) (contradiction rs)
