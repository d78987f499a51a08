use Rattle.std.proofs.Common.{take}
use Rattle.heyvl_acts.specs.PlainActs.{procedures_of}
use Rattle.verify_core.specs.internal.Own.{AreOwn}
use Rattle.verify_core.proofs.answering.own_answers.Given as goal

abbrev pub invariant-loop-p : goal.invariant-loop-p
invariant-loop-p l = AreOwn l.way (procedures_of l.typed) (take l.p (procedures_of l.typed)) l.all.items l.certs.items l.made.items
