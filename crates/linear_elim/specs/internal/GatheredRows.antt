-- Rows that are gathered, and steps that are collected, one at a time.
use Rattle.linear_elim.specs.Elimination.{Step, Outcome, after_step}
use Rattle.linear_elim.specs.Joins.{Derived}
use Rattle.linear_elim.specs.Steps.{has_terms, put_row, is_contradiction}
use Rattle.std.specs.Option.{option_or}
use Rattle.std.specs.Prelude.{List, [], ◌∷◌, cond, Option, Some, None}

-- `after_all ss o`: the outcome `o` after the steps `ss`.
unfoldable pub after_all : List Step → Outcome → Outcome
after_all [] o = o
after_all (s ∷ ss) o = after_step s (after_all ss o)

-- `found_after r o`: the first contradiction after the row `r` is added.
abbrev pub found_after : Derived → Option Derived → Option Derived
found_after r o = option_or o (cond (is_contradiction r.row) (Some r) None)

abbrev pub rows_after : Derived → List Derived → List Derived
rows_after r ks = cond (has_terms r.row.terms) (put_row r ks) ks

unfoldable pub found_all : List Derived → Option Derived → Option Derived
found_all [] o = o
found_all (d ∷ ds) o = found_all ds (found_after d o)

unfoldable pub rows_all : List Derived → List Derived → List Derived
rows_all [] ks = ks
rows_all (d ∷ ds) ks = rows_all ds (rows_after d ks)
