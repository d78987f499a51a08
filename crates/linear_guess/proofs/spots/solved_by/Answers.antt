use Rattle.linear_guess.proofs.SpotRows.{met_somewhere}
use Rattle.linear_guess.proofs.spots.solved_by.Goals as goal

pub returns : goal.returns
returns c = (c.solutions_of_rows.ensures.points c.args.rows.now).1 (met_somewhere c.args.spot.now.below c.args.spot.now.tops.items c.args.rows.now c.requires.positive c.requires.met)
