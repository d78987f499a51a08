use Rattle.guarded_commands.proofs.program_reader.clause.Goals as goal
use Rattle.std.proofs.Common.{arith}

pub returns-clause-value : goal.returns-clause-value
returns-clause-value c = λ n h. rw (c.in_ok-rest.ensures.value) (c.ended_expr.ensures.value n (omega (arith, c.in_ok-rest.ensures.shorter)))
