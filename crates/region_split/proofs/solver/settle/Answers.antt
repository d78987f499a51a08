use Rattle.region_split.proofs.PathAnswers.{refuted_rows, met_rows}
use Rattle.region_split.proofs.solver.settle.Goals as goal

pub returns-in-Refuted-clause-settled : goal.returns-in-Refuted-clause-settled
returns-in-Refuted-clause-settled c g ps denied e t = refuted_rows g ps denied c.args.list.now c.in-Refuted.multipliers.items e (rw c.in-Refuted.is at c.in_ok-multipliers.ensures.finding)

pub returns-in-Met-clause-settled : goal.returns-in-Met-clause-settled
returns-in-Met-clause-settled c g ps denied e t = met_rows g ps denied c.args.list.now e (rw c.in-Met.is at c.in_ok-multipliers.ensures.finding)

pub returns-in_ok-solve_rows-in-Open-clause-settled : goal.returns-in_ok-solve_rows-in-Open-clause-settled
returns-in_ok-solve_rows-in-Open-clause-settled c g ps denied e t = c.settled_by.ensures g ps denied (c.in_ok-solve_rows-in-Open.ensures g ps denied e t)
