use Rattle.heylo_formula.specs.Goals.{goal_of}
use Rattle.linear_form.specs.Places.{IsOn}
use Rattle.linear_form.specs.PlainPaths.{path_of}
use Rattle.linear_form.specs.internal.Evaluations.{standing, weight, IsReadyEvaluation}
use Rattle.linear_form.proofs.continuations.go_on_from.Given as goal

abbrev pub invariant-steps : goal.invariant-steps
invariant-steps l = record { on : IsOn (goal_of l.goal) (path_of l.path) (standing l.evaluation.value); ready : IsReadyEvaluation l.evaluation.value }

abbrev pub decreases-steps : goal.decreases-steps
decreases-steps l = weight l.evaluation.value
