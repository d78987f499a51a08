use Rattle.std.proofs.Common.{[]}
use Rattle.heylo_formula.specs.Goals.{goal_of}
use Rattle.linear_form.specs.PlainPaths.{path_of}
use Rattle.linear_form.proofs.PlaceRuns.{place_stays}
use Rattle.linear_form.proofs.path_ends.ask.Goals as goal

pub go_on-requires-clause-path : goal.go_on-requires-clause-path
go_on-requires-clause-path c = c.requires

pub go_on-requires-clause-on : goal.go_on-requires-clause-on
go_on-requires-clause-on c = place_stays (goal_of c.args.goal.now) [] (path_of c.args.path.now) c.in_ok-place.place c.in_ok-place.ensures
