use Rattle.std.proofs.Common.{◌≡◌, drop}
use Rattle.std.specs.Prelude.{Some}
use Rattle.heyvl_num.specs.ExtendedNumbers.{value_of}
use Rattle.heyvl_acts.specs.Acts.{procedure_at}
use Rattle.heyvl_acts.specs.PlainActs.{procedures_of}
use Rattle.run_machine.specs.Replies.{stored_outcomes}
use Rattle.run_unroller.specs.Totals.{added, ended, post_of, post_total}
use Rattle.run_unroller.proofs.values.post_sum.Given as goal

abbrev pub invariant-loop-run : goal.invariant-loop-run
invariant-loop-run l = post_total (procedure_at (procedures_of l.typed) l.p).post (stored_outcomes l.runs) ≡ added (post_of (procedure_at (procedures_of l.typed) l.p).post) (Some (value_of l.sum)) (ended (stored_outcomes (drop l.run-index l.runs)))
