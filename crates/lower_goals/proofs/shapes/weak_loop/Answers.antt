use Rattle.std.proofs.Common.{◌∙◌, sym, ap}
use Rattle.heyvl_acts.specs.Acts.{acts_in}
use Rattle.heyvl_acts.specs.PlainActs.{acts_of, body_of, procedure_of}
use Rattle.lower_goals.proofs.LentLoops.{bodiless, not_weak}
use Rattle.lower_goals.proofs.shapes.weak_loop.Goals as goal

pub returns-then-not-procedure : goal.returns-then-not-procedure
returns-then-not-procedure c = λ e l. not_weak (procedure_of c.args.procedure.now) c.if-not-procedure.true l

pub returns-in-Some : goal.returns-in-Some
returns-in-Some c = λ e. c.loop_among.ensures (procedure_of c.args.procedure.now) (ap (λ b. acts_in (body_of b)) c.in-Some.is ∙ ap acts_of (sym c.deref.ensures.value)) c.if-not-procedure.false e

pub returns-in-None : goal.returns-in-None
returns-in-None c = λ e l. bodiless (procedure_of c.args.procedure.now) (ap body_of c.in-None.is) l
