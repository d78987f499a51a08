-- Fronts and cells of a goal: the paths that the walk through its comparisons reaches. This
-- project's own.
use Rattle.std.specs.Prelude.{◌≡◌, List, [], Bool, true, false, Some}
use Rattle.heylo_formula.specs.Goals.{Goal}
use Rattle.linear_rows.specs.Row.{Row}
use Rattle.linear_rows.specs.Solutions.{IsSolvable}
use Rattle.linear_form.specs.Query.{Query, Atom, Taken, onto}
use Rattle.linear_form.specs.Questions.{Ends}
use Rattle.linear_form.specs.Paths.{Asks, end_at}
use Rattle.linear_form.specs.PathRows.{rows_of, IsPlainAt}

-- `IsDropped g ps`: the rows of the path `ps` have no solution, so the walk does not continue here.
pub record IsDropped (g : Goal) (ps : List Taken) : Type 0 where
  pub rows : List Row
  pub are_rows : rows_of g ps false ≡ Some rows
  pub unsolvable : IsSolvable rows → ⊥

-- `IsKeptPath g ps`: the rows of the path `ps` have a solution.
pub record IsKeptPath (g : Goal) (ps : List Taken) : Type 0 where
  pub rows : List Row
  pub are_rows : rows_of g ps false ≡ Some rows
  pub solvable : IsSolvable rows

-- `GoesOn g ps q`: the path `ps` is kept, and `q` is its next comparison.
pub record GoesOn (g : Goal) (ps : List Taken) (q : Atom) : Type 0 where
  pub kept : IsKeptPath g ps
  pub asks : Asks g ps q

-- `IsFront g ps`: the walk reaches the path `ps`: it is empty, or a front that is kept with one
-- more answer.
pub data IsFront (g : Goal) : List Taken → Type 0 where
  start : IsFront g []
  answer : (ps : List Taken) (q : Atom) (held : Bool) → IsFront g ps → GoesOn g ps q
      → IsFront g (onto ps q held)

-- `IsCell g ps`: the path `ps` is a front that is kept, at an end.
pub record IsCell (g : Goal) (ps : List Taken) : Type 0 where
  pub front : IsFront g ps
  pub kept : IsKeptPath g ps
  pub ends : Ends
  pub at_end : end_at g ps ≡ Query.done ends
