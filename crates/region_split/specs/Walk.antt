-- The walk through the comparisons of a goal, depth first, the branch in which a comparison holds
-- first: its cells in order, and the cells before a front that it reaches. This project's own.
use Rattle.std.specs.Prelude.{◌≡◌, ◌≤◌, List, [], ◌∷◌, ◌++◌, length, true, false, Some}
use Rattle.heylo_formula.specs.Goals.{Goal}
use Rattle.linear_rows.specs.Row.{Row}
use Rattle.linear_rows.specs.Solutions.{IsSolvable}
use Rattle.linear_form.specs.Query.{Atom, Taken, onto}
use Rattle.linear_form.specs.Query.Query.{done}
use Rattle.linear_form.specs.Questions.{Ends}
use Rattle.linear_form.specs.Paths.{end_at}
use Rattle.linear_form.specs.PathRows.{rows_of, IsPlainAt}
use Rattle.linear_form.specs.Cells.{IsCell, IsDropped, IsKeptPath, GoesOn}
use Rattle.farkas_check.specs.AcceptedCertificates.{has_denied}

-- `IsStated g ps`: the rows of a certificate at the path `ps` do not overflow. They include the
-- denied goal at an end at which the goal does not hold trivially.
pub record IsStated (g : Goal) (ps : List Taken) : Type 0 where
  pub rows : List Row
  pub are_rows : rows_of g ps (has_denied g ps) ≡ Some rows

-- `IsRefutedCell g ps`: the rows of the path `ps` with the denied goal have no solution.
pub record IsRefutedCell (g : Goal) (ps : List Taken) : Type 0 where
  pub rows : List Row
  pub are_rows : rows_of g ps true ≡ Some rows
  pub unsolvable : IsSolvable rows → ⊥

-- `IsFalse g ps`: the goal does not hold trivially at the path `ps`, and the rows with the denied
-- goal have a solution.
pub record IsFalse (g : Goal) (ps : List Taken) : Type 0 where
  pub not_plain : IsPlainAt g ps → ⊥
  pub rows : List Row
  pub are_rows : rows_of g ps true ≡ Some rows
  pub solvable : IsSolvable rows

-- `IsSettled g ps`: the cell `ps` is decided: the goal holds there trivially, the denied goal is
-- refuted, or the cell is false.
pub data IsSettled (g : Goal) (ps : List Taken) : Type 0 where
  plain : IsPlainAt g ps → IsSettled g ps
  refuted : IsRefutedCell g ps → IsSettled g ps
  falsified : IsCell g ps → IsFalse g ps → IsSettled g ps

-- `AreCells g ps cells`: `cells` are the cells that begin with the path `ps`, in order. A dropped
-- path has none, a path at an end is its own cell, and any other path has those of its two
-- branches. The rows of the dropped paths do not overflow, and the cells are decided.
pub data AreCells (g : Goal) : List Taken → List (List Taken) → Type 0 where
  dropped : (ps : List Taken) → IsDropped g ps → IsStated g ps → AreCells g ps []
  end : (ps : List Taken) (e : Ends) → IsKeptPath g ps → end_at g ps ≡ done e → IsSettled g ps
      → AreCells g ps (ps ∷ [])
  question : (ps : List Taken) (q : Atom) (cs ds : List (List Taken)) → GoesOn g ps q
      → AreCells g (onto ps q true) cs → AreCells g (onto ps q false) ds → AreCells g ps (cs ++ ds)

-- `AreBefore g ps cells`: the walk reaches the front `ps` after the cells `cells`, in order.
pub data AreBefore (g : Goal) : List Taken → List (List Taken) → Type 0 where
  start : AreBefore g [] []
  first : (ps : List Taken) (q : Atom) (cs : List (List Taken)) → GoesOn g ps q → AreBefore g ps cs
      → AreBefore g (onto ps q true) cs
  second : (ps : List Taken) (q : Atom) (cs ds : List (List Taken)) → GoesOn g ps q
      → AreBefore g ps cs → AreCells g (onto ps q true) ds
      → AreBefore g (onto ps q false) (cs ++ ds)

-- `IsReached g ps cells`: the walk reaches the front `ps` after the cells `cells`, of which there
-- are at most 4,096.
pub record IsReached (g : Goal) (ps : List Taken) (cells : List (List Taken)) : Type 0 where
  pub are_before : AreBefore g ps cells
  pub few : length cells ≤ 4096

-- `IsWalked g cells`: `cells` are all cells of the goal, in the order of the walk, at most 4,096.
pub record IsWalked (g : Goal) (cells : List (List Taken)) : Type 0 where
  pub are_cells : AreCells g [] cells
  pub few : length cells ≤ 4096
