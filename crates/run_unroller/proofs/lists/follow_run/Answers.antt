use Rattle.std.proofs.Common.{subst}
use Rattle.heyvl_acts.specs.PlainActs.{procedures_of}
use Rattle.run_machine.specs.Names.{decision_of, stored}
use Rattle.run_machine.specs.Replies.{stored_outcomes}
use Rattle.run_machine.specs.StepAnswers.{IsStep}
use Rattle.run_unroller.specs.internal.RunViews.{runs_of}
use Rattle.run_unroller.proofs.StepOutcomes.{ended_joins, if_ok, is_nothing, is_something, running_joins}
use Rattle.run_unroller.proofs.lists.follow_run.Goals as goal

pub returns-then-is_empty : goal.returns-then-is_empty
returns-then-is_empty c =
    let ps = procedures_of c.args.typed.now in
    let none = is_nothing _ c.args.config.items.items _ c.args.config.items.ok.0 c.is_empty.ensures c.if-is_empty.true in
    if_ok c.join_outcome.result (λ cause h. ended_joins ps c.args.script.now (runs_of c.args.next.now.entries.entries) _ c.args.weight c.one.result (stored c.args.config) cause none c.one.ensures h) c.join_outcome.ensures

pub returns : goal.returns
returns c =
    let ps = procedures_of c.args.typed.now in
    let some = is_something _ c.args.config.items.items _ c.args.config.items.ok.0 c.is_empty.ensures c.if-is_empty.false in
    let is = subst (IsStep ps (stored c.args.config) (decision_of c.decision.result)) c.in-Next.is c.in_ok-step.ensures in
    if_ok c.join_all.result (λ cause h. running_joins ps c.args.script.now (runs_of c.args.next.now.entries.entries) _ c.args.weight (stored c.args.config) (decision_of c.decision.result) (stored_outcomes c.in-Next.outcomes.items) cause some c.decision.ensures is.reply h) c.join_all.ensures
