use Rattle.std.proofs.Common.{ap, sym}
use Rattle.run_machine.proofs.Procedures.{found_at, past_all}
use Rattle.run_machine.proofs.starts.loops_of.Goals as goal

pub returns-in-Some : goal.returns-in-Some
returns-in-Some c = let h = c.in-Some.ensures.lookup in let e = rw c.deref.ensures.value at (found_at _ c.args.p c.in-Some.procedure.now h.3.0 h.1) in sym (ap (λ q. q.loops) e)

pub returns-in-None : goal.returns-in-None
returns-in-None c = let h = c.in-None.ensures.lookup in let e = rw c.deref.ensures.value at (past_all _ c.args.p h.3) in sym (ap (λ q. q.loops) e)
