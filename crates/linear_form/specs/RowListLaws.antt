-- Laws of the rows of a path.
use Rattle.std.specs.Prelude.{◌≡◌, ℕ, ◌+◌, List, take, [], ◌∷◌, ◌++◌, length, Bool, true, false}
use Rattle.std.specs.Prelude.{not, Some, is_some}
use Rattle.std.specs.List.{All, Contains}
use Rattle.heylo_formula.specs.Goals.{Goal}
use Rattle.linear_form.specs.Query.{Atom, Taken, onto}
use Rattle.linear_form.specs.Paths.{IsPath, end_at}
use Rattle.linear_form.specs.PathRows.{path_claims, answer_claims, denial_at, rows_of}
use Rattle.linear_rows.specs.Row.{Row}
use Rattle.linear_rows.specs.VariableTypes.{IsNumericRow}
use Rattle.linear_form.specs.RowLists.{ArePathRows}
use Rattle.linear_rows.specs.Solutions.{IsSolvable}
use Rattle.linear_form.specs.Cells.{IsKeptPath}
use Rattle.heylo_formula.specs.TypedGoals.{IsTypedGoal}

-- Each variable of a row of a typed goal has a type of numbers.
abbrev pub RowsAreNumeric : Type 0
RowsAreNumeric = (g : Goal) (ps : List Taken) (denied : Bool) (rows : List Row) → IsTypedGoal g
    → IsPath g ps → rows_of g ps denied ≡ Some rows → All (IsNumericRow g.types) rows

-- `StandAmong rs ss`: the rows `rs` are a subsequence of the rows `ss`.
pub data StandAmong : List Row → List Row → Type 0 where
  none : StandAmong [] []
  here : (r : Row) (rs ss : List Row) → StandAmong rs ss → StandAmong (r ∷ rs) (r ∷ ss)
  past : (s : Row) (rs ss : List Row) → StandAmong rs ss → StandAmong rs (s ∷ ss)

-- `MakesRoom answers rows denied`: the lists `rows` and `denied` begin with the same `answers`
-- rows. In `denied`, the row of the denied goal follows. The rest of `rows`, the signs, is a
-- subsequence of the rest of `denied`.
pub record MakesRoom (answers : ℕ) (rows denied : List Row) : Type 0 where
  pub first : List Row
  pub denied_goal : Row
  pub signs : List Row
  pub more_signs : List Row
  pub counted : length first ≡ answers
  pub split : rows ≡ first ++ signs
  pub denied_split : denied ≡ first ++ (denied_goal ∷ more_signs)
  pub among : StandAmong signs more_signs

-- If the goal can be denied at the end of a path, the row of the denied goal follows the rows of
-- the answers.
abbrev pub DeniedGoalMakesRoom : Type 0
DeniedGoalMakesRoom = (g : Goal) (ps : List Taken) (rows denied : List Row)
    → is_some (denial_at g.upper (end_at g ps)) ≡ true → rows_of g ps false ≡ Some rows
    → rows_of g ps true ≡ Some denied → MakesRoom (length (path_claims ps)) rows denied

-- The rows without the denied goal are among those with it.
abbrev pub DeniedRowsAreMore : Type 0
DeniedRowsAreMore = (g : Goal) (ps : List Taken) (rows denied : List Row)
    → rows_of g ps false ≡ Some rows → rows_of g ps true ≡ Some denied → All (Contains denied) rows

-- If the rows with the denied goal are solvable, so are those without it.
abbrev pub DeniedRowsAreStronger : Type 0
DeniedRowsAreStronger = (g : Goal) (ps : List Taken) (rows denied : List Row)
    → rows_of g ps false ≡ Some rows → rows_of g ps true ≡ Some denied → IsSolvable denied
    → IsSolvable rows

-- A path has one row for each answered comparison of numbers.
abbrev pub PathRowsAreCounted : Type 0
PathRowsAreCounted = (g : Goal) (ps : List Taken) (rows : List Row) → ArePathRows g ps rows
    → length rows ≡ length (path_claims ps)

-- The rows of a path begin with the rows of each shorter path.
abbrev pub FirstPathRows : Type 0
FirstPathRows = (g : Goal) (ps qs : List Taken) (rows : List Row) → ArePathRows g (ps ++ qs) rows
    → ArePathRows g ps (take (length (path_claims ps)) rows)

-- One more answer adds one row, or none if it is the truth of a Boolean.
abbrev pub LastPathRow : Type 0
LastPathRow = (ps : List Taken) (q : Atom) (held : Bool)
    → length (path_claims (onto ps q held)) ≡ length (path_claims ps)
    + length (answer_claims q held)

-- `HasFirstRows g ps first`: the rows of the path `ps` without the denied goal begin with `first`.
pub record HasFirstRows (g : Goal) (ps : List Taken) (first : List Row) : Type 0 where
  pub signs : List Row
  pub are_rows : rows_of g ps false ≡ Some (first ++ signs)

-- Let the path `ps` have solvable rows, and let the row of one more answer be among them. Then the
-- rows of the path with this answer are solvable too. The rows of the path with the opposite answer
-- are those of its answers, followed by those of the signs.
abbrev pub RepeatedRowsStand : Type 0
RepeatedRowsStand = (g : Goal) (ps : List Taken) (q : Atom) (held : Bool) (rows : List Row)
    (r other : Row) → ArePathRows g ps rows → ArePathRows g (onto ps q held) (rows ++ (r ∷ []))
    → ArePathRows g (onto ps q (not held)) (rows ++ (other ∷ [])) → Contains rows r
    → IsKeptPath g ps → IsKeptPath g (onto ps q held)
    × HasFirstRows g (onto ps q (not held)) (rows ++ (other ∷ []))
