use Rattle.std.proofs.Common.{ap, sym, ◌∙◌, ◌+◌, drop}
use Rattle.std.specs.Prelude.{Some, None, option_map}
use Rattle.heyvl_num.specs.ExtendedNumbers.{value_of}
use Rattle.heyvl_acts.specs.Acts.{procedure_at}
use Rattle.heyvl_acts.specs.PlainActs.{procedures_of}
use Rattle.run_machine.specs.Replies.{stored_outcomes}
use Rattle.run_unroller.specs.Totals.{added, ended, post_of}
use Rattle.run_unroller.proofs.AddedSums.{added-none, ended_next}
use Rattle.run_unroller.proofs.FoundProcedures.{zero_value}
use Rattle.run_unroller.proofs.values.post_sum.Goals as goal

pub loop-run-init : goal.loop-run-init
loop-run-init c = let ps = procedures_of c.args.typed.now in ap (λ z. added (post_of (procedure_at ps c.args.p).post) (Some z) (ended (stored_outcomes c.args.runs.now))) (zero_value _ c.zero.ensures)

pub loop-run-preserved : goal.loop-run-preserved
loop-run-preserved c =
    let ps = procedures_of c.args.typed.now in
    c.loop-run.invariant ∙ ended_next (post_of (procedure_at ps c.args.p).post) (Some (value_of c.loop-run.sum)) _ c.args.runs.now c.loop-run.run-index c.run-item.result c.loop-run-test.true c.run-item.is c.in_ok-sum.ensures

pub returns-in_err-sum : goal.returns-in_err-sum
returns-in_err-sum c =
    let ps = procedures_of c.args.typed.now in
    let f = post_of (procedure_at ps c.args.p).post in
    ap (option_map value_of) c.from_residual.ensures
    ∙ sym (c.loop-run.invariant ∙ ended_next f (Some (value_of c.loop-run.sum)) None c.args.runs.now c.loop-run.run-index c.run-item.result c.loop-run-test.true c.run-item.is c.in_err-sum.ensures ∙ added-none f (ended (stored_outcomes (drop (c.loop-run.run-index + 1) c.args.runs.now))))
