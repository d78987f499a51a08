use Rattle.heylo_formula.specs.Goals.{goal_of}
use Rattle.region_split.proofs.PathAnswers.{end_there}
use Rattle.region_split.proofs.front.end_of.Goals as goal

pub returns : goal.returns
returns c ps k a = record { is_end = end_there (goal_of c.args.goal.now) ps c.args.stated c.args.found c.holds_plainly-plain.result k a c.holds_plainly-plain.ensures; values = a }
