-- The meaning of each decision for the walk through a goal. This project's own.
use Rattle.std.specs.Prelude.{◌≡◌, ℕ, ◌+◌, ◌≤◌, ◌<◌, List, [], ◌∷◌, ◌++◌, length, true, false}
use Rattle.std.specs.Prelude.{Option, Some, None}
use Rattle.std.specs.List.{All}
use Rattle.heylo_formula.specs.Goals.{Goal}
use Rattle.heylo_formula.specs.declared.values.Val.{Val}
use Rattle.linear_form.specs.Query.{Taken}
use Rattle.linear_form.specs.Query.Query.{bits}
use Rattle.linear_form.specs.Paths.{end_at}
use Rattle.linear_form.specs.PathRows.{rows_of, IsPlainAt}
use Rattle.linear_form.specs.Nonlinear.{nonlinear_product}
use Rattle.linear_rows.specs.Row.{Row}
use Rattle.linear_form.specs.Cells.{IsDropped, IsKeptPath, IsCell}
use Rattle.linear_elim.specs.Elimination.Outcome.{too_many}
use Rattle.linear_elim.specs.Answers.{eliminated, IsTooGreat, IsShortLimited}
use Rattle.goal_answers.specs.declared.causes.Broken.{Broken}
use Rattle.goal_answers.specs.declared.causes.Cause.{Cause}
use Rattle.goal_answers.specs.declared.causes.Cause.TheVariants.{Depth, Nodes, Nonlinear, Cells}
use Rattle.goal_answers.specs.declared.causes.Cause.TheVariants.{Rows, Bits, Fraction}
use Rattle.goal_answers.specs.Trees.{Tree, tree_of, depth}
use Rattle.goal_answers.specs.declared.trees.Tree as T
use Rattle.region_split.specs.PathPoints.{Breaks, IsBreakOf}
use Rattle.region_split.specs.Pieces.{EndsOf, HasFirstPoint, IsPieceOf}
use Rattle.region_split.specs.Walk.{AreBefore, IsReached, IsWalked}
use Rattle.region_split.specs.WalkTree.{IsWalkTree}
use Rattle.goal_answers.specs.declared.decisions.Decision.{Decision}
use Rattle.goal_answers.specs.declared.decisions.Decision.TheVariants.{Proved, Falsified, Unknown}

-- `HasCells g count`: the walk reaches a cell that is number `count`.
pub record HasCells (g : Goal) (count : ℕ) : Type 0 where
  pub path : List Taken
  pub before : List (List Taken)
  pub are_before : AreBefore g path before
  pub cell : IsCell g path
  pub counted : 1 + length before ≡ count

-- `IsLookedAt g n ps cells`: the walk solves the piece `ps`, after `n` splits, of one of the first
-- 4,096 cells, after the cells `cells`. The goal does not hold trivially there.
pub record IsLookedAt (g : Goal) (n : ℕ) (ps : List Taken) (cells : List (List Taken))
    : Type 0 where
  pub cell : List Taken
  pub reached : IsReached g cell cells
  pub few : length cells < 4096
  pub is_cell : IsCell g cell
  pub not_plain : IsPlainAt g cell → ⊥
  pub piece : IsPieceOf g cell n ps

-- `Eliminates g ps rows`: the walk solves the rows `rows`: those of a front without the denied
-- goal, or those of a piece with it.
pub data Eliminates (g : Goal) (ps : List Taken) (rows : List Row) : Type 0 where
  of_front : (cells : List (List Taken)) → IsReached g ps cells → rows_of g ps false ≡ Some rows
      → Eliminates g ps rows
  of_piece : (n : ℕ) (cells : List (List Taken)) → IsLookedAt g n ps cells
      → rows_of g ps true ≡ Some rows → Eliminates g ps rows

-- `HasManyRows g steps count`: the walk ends, because an elimination reaches `count` rows, more
-- than 4,096, after `steps` steps, and also reaches a limit if it leaves out dominated rows.
pub record HasManyRows (g : Goal) (steps : ℕ) (count : ℕ) : Type 0 where
  pub path : List Taken
  pub rows : List Row
  pub eliminates : Eliminates g path rows
  pub too_many_rows : eliminated rows g.types ≡ too_many steps count
  pub short : IsShortLimited rows g.types

-- `IsLarge g`: the walk ends at an overflow: of a value at a front with solvable rows; of a row of
-- a front; of the denied goal at a dropped front; of a row of a piece; or of a number in an
-- elimination that also reaches a limit if it leaves out dominated rows.
pub data IsLarge (g : Goal) : Type 0 where
  in_values : (ps : List Taken) (cells : List (List Taken)) → IsReached g ps cells → IsKeptPath g ps
      → end_at g ps ≡ bits → IsLarge g
  in_rows : (ps : List Taken) (cells : List (List Taken)) → IsReached g ps cells
      → rows_of g ps false ≡ None → IsLarge g
  in_denied_goal : (ps : List Taken) (cells : List (List Taken)) → IsReached g ps cells
      → IsDropped g ps → rows_of g ps true ≡ None → IsLarge g
  in_piece : (n : ℕ) (ps : List Taken) (cells : List (List Taken)) → IsLookedAt g n ps cells
      → rows_of g ps true ≡ None → IsLarge g
  in_elimination : (ps : List Taken) (rows : List Row) → Eliminates g ps rows
      → IsTooGreat rows g.types → IsShortLimited rows g.types → IsLarge g

-- `IsFirstPoint g cells point`: `point` is that of the first end of the cells `cells` at which the
-- greedy choice does not break. Nothing after this end is split.
pub record IsFirstPoint (g : Goal) (cells : List (List Taken)) (point : List Val) : Type 0 where
  pub before : List (List Taken)
  pub cell : List Taken
  pub after : List (List Taken)
  pub whole : before ++ (cell ∷ after) ≡ cells
  pub ends : List (List Taken)
  pub are_ends : EndsOf g before ends
  pub broken : All (Breaks g) ends
  pub is_cell : IsCell g cell
  pub gives : HasFirstPoint g 0 cell point

-- `IsFirstBreak g cells b`: the cells `cells` have ends, the greedy choice breaks at each of them,
-- and `b` is the first break.
pub record IsFirstBreak (g : Goal) (cells : List (List Taken)) (b : Broken) : Type 0 where
  pub path : List Taken
  pub after : List (List Taken)
  pub are_ends : EndsOf g cells (path ∷ after)
  pub breaks_here : IsBreakOf g path b
  pub broken_after : All (Breaks g) after

-- `IsFalsified g point`: the walk visits all cells, and `point` is that of one of their ends.
pub record IsFalsified (g : Goal) (point : List Val) : Type 0 where
  pub cells : List (List Taken)
  pub walked : IsWalked g cells
  pub first : IsFirstPoint g cells point

-- `IsUndecided g b`: the walk visits all cells, they have ends, the greedy choice breaks at each of
-- them, and `b` is the first break.
pub record IsUndecided (g : Goal) (b : Broken) : Type 0 where
  pub cells : List (List Taken)
  pub walked : IsWalked g cells
  pub first : IsFirstBreak g cells b

-- `IsGiven t given`: `given` is the tree `t` if it is at most 1,000 deep, otherwise `None`.
abbrev pub IsGiven : Tree → Option T.Tree → Type 0
IsGiven t (Some given) = (tree_of given ≡ t) × (depth t ≤ 1000)
IsGiven t None = 1000 < depth t

-- `IsProved g given`: the goal holds in each cell, as the tree of the walk shows, and this tree is
-- `given`.
pub record IsProved (g : Goal) (given : Option T.Tree) : Type 0 where
  pub cells : List (List Taken)
  pub walked : IsWalked g cells
  pub tree : Tree
  pub is_tree : IsWalkTree g [] tree
  pub is_given : IsGiven tree given

-- `IsCause g cause`: `cause` is why the goal `g` is not decided. `Depth` and `Nodes` are causes of
-- procedures without goals, and never those of a decision.
abbrev pub IsCause : Goal → Cause → Type 0
IsCause g Depth = ⊥
IsCause g Nodes = ⊥
IsCause g (Nonlinear span) = nonlinear_product g ≡ Some span
IsCause g (Cells count) = (nonlinear_product g ≡ None) × ((count ≡ 4097) × HasCells g count)
IsCause g (Rows steps count) = (nonlinear_product g ≡ None) × HasManyRows g steps count
IsCause g Bits = (nonlinear_product g ≡ None) × IsLarge g
IsCause g (Fraction b) = (nonlinear_product g ≡ None) × IsUndecided g b

-- `IsDecision g d`: `d` is a decision of the walk through the goal `g`. The cases exclude each
-- other, except that `Rows` and `Bits` are allowed wherever the walk reaches their cause.
abbrev pub IsDecision : Goal → Decision → Type 0
IsDecision g (Proved t) = (nonlinear_product g ≡ None) × IsProved g t
IsDecision g (Falsified point) = (nonlinear_product g ≡ None) × IsFalsified g point.items
IsDecision g (Unknown cause) = IsCause g cause
