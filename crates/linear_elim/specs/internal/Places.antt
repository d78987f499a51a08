-- The place of a row among rows that are gathered.
use Rattle.linear_elim.specs.Joins.{Derived}
use Rattle.linear_rows.specs.SameTerms.{same_terms}
use Rattle.std.specs.Prelude.{◌≡◌, ℕ, ◌<◌, ◌≤◌, length, get_or, List, true, false}

-- `IsPlace r ks i`: `i` is the index of the first row with the same terms as `r`, or the number of
-- rows.
pub record IsPlace (r : Derived) (ks : List Derived) (i : ℕ) : Type 0 where
  pub within : i ≤ length ks
  pub before : (j : ℕ) → j < i → same_terms (get_or ks j r).row.terms r.row.terms ≡ false
  pub here : i < length ks → same_terms (get_or ks i r).row.terms r.row.terms ≡ true
