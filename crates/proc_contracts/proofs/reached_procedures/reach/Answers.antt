use Rattle.std.proofs.Common.{◌≡◌, subst, sym}
use Rattle.std.proofs.lemmas.Result.{IfOk-weaker}
use Rattle.heyvl_acts.specs.PlainActs.{procedures_of}
use Rattle.proc_contracts.specs.ReachedProcedures.{AreReached}
use Rattle.proc_contracts.specs.internal.MarkedNumbers.{marked}
use Rattle.proc_contracts.proofs.Walk.{marked_are_reached}
use Rattle.proc_contracts.proofs.reached_procedures.reach.Goals as goal

pub returns : goal.returns
returns c = IfOk-weaker _ (λ found. found.items ≡ marked 0 c.in_ok-marks.marks.items) (λ found. AreReached (procedures_of c.args.typed.now) c.args.p found.items) (λ found h. subst (λ l. AreReached (procedures_of c.args.typed.now) c.args.p l) (sym h) (marked_are_reached (procedures_of c.args.typed.now) c.args.p c.in_ok-marks.marks.items c.in_ok-marks.ensures)) (rw c.deref.ensures.value at c.numbers_of.ensures)
