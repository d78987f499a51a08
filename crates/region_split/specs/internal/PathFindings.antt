-- The program's results at a path of the walk.
use Rattle.std.specs.Prelude.{◌≡◌, ℕ, ◌↔◌, ◌<◌, ◌^◌, List, length, Bool, true, false, Some, None}
use Rattle.std.specs.Prelude.{IsTrue}
use Rattle.heylo_formula.specs.Goals.{Goal}
use Rattle.heylo_formula.specs.declared.values.Val.{Val}
use Rattle.linear_form.specs.Query.{Query, Taken}
use Rattle.linear_form.specs.Questions.{Ends}
use Rattle.linear_form.specs.Paths.{end_at}
use Rattle.linear_form.specs.PathRows.{rows_of, IsPlainAt}
use Rattle.linear_form.specs.PlainPaths.{atom_of}
use Rattle.linear_form.specs.Nonlinear.{nonlinear_product}
use Rattle.std.specs.List.{All}
use Rattle.linear_rows.specs.Row.{Row, IsRow}
use Rattle.linear_rows.specs.VariableTypes.{IsNumericRow}
use Rattle.linear_form.specs.AskAnswers.{Answers}
use Rattle.linear_form.specs.declared.questions.Ask as K
use Rattle.linear_rows.specs.Solutions.{IsSolvable}
use Rattle.linear_rows.specs.GreedyPoint.{IsGreedyPoint}
use Rattle.linear_form.specs.Cells.{IsKeptPath, GoesOn}
use Rattle.linear_elim.specs.Answers.{IsBreak, HasNarrowEnds}
use Rattle.goal_answers.specs.declared.causes.Broken.{Broken}
use Rattle.goal_answers.specs.declared.causes.Cause.{Cause}
use Rattle.farkas_check.specs.AcceptedCertificates.{IsRefutedWith}
use Rattle.region_split.specs.Walk.{IsReached}
use Rattle.region_split.specs.Decisions.{IsCause, IsLookedAt}
use Rattle.region_split.specs.declared.solver.Solved.{Solved}
use Rattle.region_split.specs.declared.solver.Solved.TheVariants.{Refuted, Point, Break}
use Rattle.region_split.specs.declared.solver.Solved.TheVariants as S
use Rattle.region_split.specs.declared.solver.Settled.{Settled}
use Rattle.region_split.specs.declared.solver.Settled.TheVariants as D
use Rattle.linear_form.specs.Places.{IsOn}
use Rattle.region_split.specs.internal.Trails.{StandsAt, IsDroppedBy}
use Rattle.region_split.specs.declared.trail.Trail.{Trail}
use Rattle.region_split.specs.declared.front.End as E
use Rattle.region_split.specs.declared.front.Front.{Front}
use Rattle.region_split.specs.declared.front.Front.TheVariants.{Dropped, Question, End, Unknown}

-- `AreRowsAt g ps denied rows`: `rows` are the rows of the path `ps`, and satisfy the preconditions
-- of the solver.
pub record AreRowsAt (g : Goal) (ps : List Taken) (denied : Bool) (rows : List Row) : Type 0 where
  pub are_rows : rows_of g ps denied ≡ Some rows
  pub normal : All IsRow rows
  pub numeric : All (IsNumericRow g.types) rows
  pub few : length rows < 2 ^ 32

-- `IsPointAt g ps denied point`: the rows of the path `ps` are solvable, and `point` is their
-- greedy point.
pub record IsPointAt (g : Goal) (ps : List Taken) (denied : Bool) (point : List Val) : Type 0 where
  pub rows : List Row
  pub are_rows : rows_of g ps denied ≡ Some rows
  pub solvable : IsSolvable rows
  pub greedy : IsGreedyPoint rows g.types point

-- `IsBreakAt g ps denied b`: the rows of the path `ps` are solvable, and the greedy choice for them
-- breaks as `b` says, between ends with numbers below 2^62.
pub record IsBreakAt (g : Goal) (ps : List Taken) (denied : Bool) (b : Broken) : Type 0 where
  pub rows : List Row
  pub are_rows : rows_of g ps denied ≡ Some rows
  pub broken : IsBreak rows g.types b
  pub narrow : HasNarrowEnds b

-- `Looks g ps denied cells`: after the cells `cells`, the walk solves the rows of the path `ps`:
-- without the denied goal at a front, with it at a piece.
abbrev pub Looks : Goal → List Taken → Bool → List (List Taken) → Type 0
Looks g ps false cells = IsReached g ps cells
Looks g ps true cells = (n : ℕ) × IsLookedAt g n ps cells

-- `EndsWalk g ps denied cause`: if the walk solves these rows, `cause` ends it.
abbrev pub EndsWalk : Goal → List Taken → Bool → Cause → Type 0
EndsWalk g ps denied cause = (cells : List (List Taken)) → Looks g ps denied cells
    → nonlinear_product g ≡ None → IsCause g cause

abbrev pub IsSolved : Goal → List Taken → Bool → Solved → Type 0
IsSolved g ps denied (Refuted ms) = IsRefutedWith g ps denied ms.items
IsSolved g ps denied (Point point) = IsPointAt g ps denied point.items
IsSolved g ps denied (Break b) = IsBreakAt g ps denied b
IsSolved g ps denied (S.Unknown cause) = EndsWalk g ps denied cause

-- `IsMetAt g ps denied`: the rows of the path `ps` have a solution.
pub record IsMetAt (g : Goal) (ps : List Taken) (denied : Bool) : Type 0 where
  pub rows : List Row
  pub are_rows : rows_of g ps denied ≡ Some rows
  pub solvable : IsSolvable rows

abbrev pub IsSettledAs : Goal → List Taken → Bool → Settled → Type 0
IsSettledAs g ps denied (D.Refuted ms) = IsRefutedWith g ps denied ms.items
IsSettledAs g ps denied D.Met = IsMetAt g ps denied
IsSettledAs g ps denied (D.Unknown cause) = EndsWalk g ps denied cause

-- `IsEnd g ps plain`: the path `ps` is kept and at an end; `plain` is whether the goal holds
-- trivially there.
pub record IsEnd (g : Goal) (ps : List Taken) (plain : Bool) : Type 0 where
  pub kept : IsKeptPath g ps
  pub ends : Ends
  pub at_end : end_at g ps ≡ Query.done ends
  pub holds_plainly : IsTrue plain ↔ IsPlainAt g ps

-- `IsEndOf g ps e`: the path `ps` is kept and at the end `e`.
pub record IsEndOf (g : Goal) (ps : List Taken) (e : E.End) : Type 0 where
  pub is_end : IsEnd g ps e.plain
  pub values : Answers (K.TheVariants.End e.stated e.found) (end_at g ps)

abbrev pub IsSeen : Goal → List Taken → Trail → Front → Type 0
IsSeen g ps t (Dropped ms) = StandsAt g ps t × IsDroppedBy g ps ms.items
IsSeen g ps t (Question q p) = StandsAt g ps t × (GoesOn g ps (atom_of q) × IsOn g ps p)
IsSeen g ps t (End e) = StandsAt g ps t × IsEndOf g ps e
IsSeen g ps t (Unknown cause) = EndsWalk g ps false cause
