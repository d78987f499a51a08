use Rattle.heylo_formula.specs.Goals.{goal_of}
use Rattle.linear_form.specs.PlainPaths.{path_of, atom_of}
use Rattle.region_split.proofs.KnownTrails.{known_further}
use Rattle.region_split.proofs.repeats.repeated.Goals as goal

pub met_again-requires-in-Some-2-clause-stands : goal.met_again-requires-in-Some-2-clause-stands
met_again-requires-in-Some-2-clause-stands c =
    let g = goal_of c.args.goal.now in
    (known_further g (path_of c.args.trail.now.path.items) (atom_of c.in-Rows.question) (atom_of c.args.atom) c.rows_of_answers.new.trail c.in-Rows.rows c.add.new.self (rw c.in-Rows.is at c.in_ok-question.ensures) (c.in_ok-number-in-Rows.ensures.known g.types)).stands

pub returns-in-None : goal.returns-in-None
returns-in-None c =
    let g = goal_of c.args.goal.now in
    let a = rw c.in-Rows.is at c.in_ok-question.ensures in
    (a.0, known_further g (path_of c.args.trail.now.path.items) (atom_of c.in-Rows.question) (atom_of c.args.atom) c.rows_of_answers.new.trail c.in-Rows.rows c.add.new.self a (c.in_ok-number-in-Rows.ensures.known g.types))
