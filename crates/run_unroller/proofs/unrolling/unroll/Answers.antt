use Rattle.std.proofs.Common.{ap, ◌∙◌, subst}
use Rattle.heyvl_acts.specs.PlainActs.{procedures_of}
use Rattle.run_machine.specs.Names.{stored}
use Rattle.run_machine.specs.Replies.{stored_outcomes}
use Rattle.run_unroller.specs.RunLists.{begun}
use Rattle.run_unroller.specs.Unrolling.{unrolling_of}
use Rattle.run_unroller.specs.internal.Extensions.{IsAfter}
use Rattle.run_unroller.specs.internal.RunViews.{runs_of}
use Rattle.run_unroller.proofs.StepOutcomes.{if_ok}
use Rattle.run_unroller.proofs.StepGrowth.{first_within}
use Rattle.run_unroller.proofs.Whole.{summed_answer}
use Rattle.run_unroller.proofs.unrolling.unroll.Goals as goal

pub after-requires-clause-within : goal.after-requires-clause-within
after-requires-clause-within c = first_within (procedures_of c.args.typed.now) c.args.p (stored c.args.start.now) (runs_of c.in_ok-runs.runs.entries.entries) c.requires.begins c.in_ok-runs.ensures

pub returns-in_ok-runs-in-Runs : goal.returns-in_ok-runs-in-Runs
returns-in_ok-runs-in-Runs c =
    let ps = procedures_of c.args.typed.now in
    let rs = runs_of c.in_ok-runs.runs.entries.entries in
    let is = subst (IsAfter ps c.args.script.now c.args.n rs) c.in-Runs.is c.in_ok-cause.ensures in
    if_ok c.added.result (λ answer h. summed_answer ps c.args.p c.args.script.now c.args.n rs (begun (stored c.args.start.now)) (stored_outcomes c.deref.result.now) (unrolling_of answer) c.in_ok-runs.ensures is.0 (ap stored_outcomes c.deref.ensures.value ∙ c.in_ok-runs-in-Runs.ensures ∙ is.1) h) c.added.ensures
