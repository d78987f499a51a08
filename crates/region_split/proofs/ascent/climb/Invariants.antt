use Rattle.std.proofs.Common.{List, length}
use Rattle.heylo_formula.specs.Goals.{Goal}
use Rattle.linear_form.specs.Query.{Taken}
use Rattle.linear_form.specs.PlainPaths.{path_of}
use Rattle.region_split.specs.internal.Trails.{Stands}
use Rattle.region_split.specs.internal.Progress.{IsAfter, HasRisen}
use Rattle.region_split.proofs.ascent.climb.Given as goal

abbrev pub decreases-up : goal.decreases-up
decreases-up l = length l.trail.path.items

abbrev pub invariant-up : goal.invariant-up
invariant-up l = (g : Goal) (all : List (List Taken)) → Stands g l.fn.trail → IsAfter g (path_of l.fn.trail.path.items) l.fn.trees.items all l.fn.tree → HasRisen g all (path_of l.fn.trail.path.items) l.trail l.trees.items l.tree
