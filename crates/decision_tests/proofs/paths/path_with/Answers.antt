use Rattle.heylo_formula.specs.Goals.{goal_of}
use Rattle.linear_form.proofs.exported.PathSteps.{empty_path}
use Rattle.decision_tests.proofs.paths.path_with.Goals as goal

pub answers-init : goal.answers-init
answers-init c = empty_path (goal_of c.args.goal.now) c.new-path.result.items c.new-path.ensures.items
