use Rattle.linear_elim.proofs.EndAnswers.{limited_answer, same_answer}
use Rattle.linear_elim.proofs.full_elimination.unless_short.Goals as goal

pub returns-in-None : goal.returns-in-None
returns-in-None c = limited_answer c.args.rows.now c.args.vars.now c.args.plain c.requires.plain (c.in_ok-found.ensures.none c.in-None.is)

pub returns-then-same : goal.returns-then-same
returns-then-same c = same_answer c.args.rows.now c.args.vars.now c.args.plain c.requires.plain (c.requires.same c.if-same.true)
