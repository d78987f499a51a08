use Rattle.region_split.proofs.PathAnswers.{refuted_rows}
use Rattle.region_split.proofs.solver.solve.Goals as goal

pub returns-in-Refuted-clause-solved : goal.returns-in-Refuted-clause-solved
returns-in-Refuted-clause-solved c g ps denied e t = refuted_rows g ps denied c.args.list.now c.in-Refuted.multipliers.items e (rw c.in-Refuted.is at c.in_ok-multipliers.ensures.finding)
