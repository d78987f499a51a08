use Rattle.std.proofs.Common.{length}
use Rattle.heylo_formula.specs.Goals.{goal_of}
use Rattle.linear_form.specs.Paths.{IsPath}
use Rattle.linear_form.specs.PlainPaths.{path_of}
use Rattle.decision_tests.proofs.paths.path_with.Given as goal

abbrev pub invariant-answers : goal.invariant-answers
invariant-answers l = IsPath (goal_of l.fn.goal) (path_of l.path.items)

abbrev pub decreases-answers : goal.decreases-answers
decreases-answers l = length l.rest
