use Rattle.heylo_formula.specs.Goals.{goal_of}
use Rattle.linear_form.specs.PlainPaths.{path_of}
use Rattle.linear_form.proofs.exported.Places.{place_stays}
use Rattle.region_split.proofs.front.reached.Goals as goal

pub go_on-requires-clause-on : goal.go_on-requires-clause-on
go_on-requires-clause-on c = c.in-Some.ensures.on (goal_of c.args.goal.now) (path_of c.args.path.now) c.requires.places

pub go_on_from-requires-clause-on : goal.go_on_from-requires-clause-on
go_on_from-requires-clause-on c = place_stays (goal_of c.args.goal.now) _ (path_of c.args.path.now) c.in_ok-first-in-None.first c.in_ok-first-in-None.ensures
