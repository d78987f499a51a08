use Rattle.std.proofs.Common.{length, ◌-◌}
use Rattle.heyvl_acts.specs.PlainActs.{procedures_of}
use Rattle.proc_contracts.proofs.Walk.{OnTheWay}
use Rattle.proc_contracts.proofs.reached_procedures.reached.Given as goal

abbrev pub invariant-calls : goal.invariant-calls
invariant-calls l = OnTheWay (procedures_of l.typed) l.p l.marks.items l.order.items l.next

-- Each procedure is in the list at most once.
abbrev pub decreases-calls : goal.decreases-calls
decreases-calls l = length l.typed.procs.items - l.next
