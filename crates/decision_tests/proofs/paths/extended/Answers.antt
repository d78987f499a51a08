use Rattle.std.proofs.Common.{rules}
use Rattle.heylo_formula.specs.Goals.{goal_of}
use Rattle.linear_form.proofs.exported.AnsweredPaths.{answered_path}
use Rattle.decision_tests.proofs.paths.extended.Goals as goal

pub returns-in_ok-push-in-Decide : goal.returns-in_ok-push-in-Decide
returns-in_ok-push-in-Decide c = answered_path (goal_of c.args.goal.now) c.deref.result.now c.args.path.items c.push.new.self.items c.in_ok-atom.field-0 c.in-Decide.atom c.args.held (search rules) (search rules) (search rules) (search rules) (search rules)
