-- The walk is at a front that it reaches.
use Rattle.std.proofs.Common.{◌≡◌, ◌≤◌, List, length, arith, Bool, true, false}
use Rattle.std.specs.Prelude.{Option}
use Rattle.heylo_formula.specs.Goals.{Goal}
use Rattle.linear_form.specs.Query.{Taken}
use Rattle.linear_form.specs.Questions.{questions}
use Rattle.linear_form.specs.Paths.{Path, IsQuestionPath}
use Rattle.linear_form.specs.Cells.{IsFront, IsCell}
use Rattle.linear_form.proofs.exported.PathSteps.{path_onto}
use Rattle.region_split.specs.Walk.{AreBefore, IsReached}
use Rattle.region_split.specs.Decisions.{HasCells}
use Rattle.region_split.specs.internal.PathFindings.{IsEnd}
use Rattle.region_split.specs.internal.Progress.{HasBefore}
use Rattle.goal_answers.specs.declared.trees.Tree as F

pub front_path : (g : Goal) (ps : List Taken) → IsFront g ps → IsQuestionPath g ps
front_path g _ IsFront.start = Path.start (questions g)
front_path g _ (IsFront.answer ps q held f h) = path_onto (questions g) ps q h.asks.yes h.asks.no held (front_path g ps f) h.asks.question

pub before_front : (g : Goal) (ps : List Taken) (cells : List (List Taken)) → AreBefore g ps cells → IsFront g ps
before_front g _ _ AreBefore.start = IsFront.start
before_front g _ _ (AreBefore.first ps q cs h b) = IsFront.answer ps q true (before_front g ps cs b) h
before_front g _ _ (AreBefore.second ps q cs ds h b d) = IsFront.answer ps q false (before_front g ps cs b) h

pub are_before : (g : Goal) (ps : List Taken) (cells : List (List Taken)) (trees : List (Option F.Tree)) → HasBefore g ps cells trees → AreBefore g ps cells
are_before g _ _ _ HasBefore.start = AreBefore.start
are_before g _ _ _ (HasBefore.first ps q cells trees h b) = AreBefore.first ps q cells h (are_before g ps cells trees b)
are_before g _ _ _ (HasBefore.second ps q cells here trees tree h b d) = AreBefore.second ps q cells here h (are_before g ps cells trees b) d.are_cells

pub reached : (g : Goal) (ps : List Taken) (cells : List (List Taken)) (trees : List (Option F.Tree)) → HasBefore g ps cells trees → length cells ≤ 4096 → IsReached g ps cells
reached g ps cells trees b l = record { are_before = are_before g ps cells trees b; few = l }

pub stands_front : (g : Goal) (ps : List Taken) (cells : List (List Taken)) (trees : List (Option F.Tree)) → HasBefore g ps cells trees → IsFront g ps
stands_front g ps cells trees b = before_front g ps cells (are_before g ps cells trees b)

pub cell_here : (g : Goal) (ps : List Taken) (plain : Bool) → IsFront g ps → IsEnd g ps plain → IsCell g ps
cell_here g ps plain f e = record { front = f; kept = e.kept; ends = e.ends; at_end = e.at_end }

pub many_cells : (g : Goal) (ps : List Taken) (cells : List (List Taken)) (trees : List (Option F.Tree)) (plain : Bool) → HasBefore g ps cells trees → IsEnd g ps plain → length cells ≡ 4096 → HasCells g 4097
many_cells g ps cells trees plain b e n = record {
  path = ps;
  before = cells;
  are_before = are_before g ps cells trees b;
  cell = cell_here g ps plain (stands_front g ps cells trees b) e;
  counted = omega (arith, n);
}
