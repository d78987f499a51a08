use Rattle.run_machine.specs.Names.{stored}
use Rattle.run_unroller.specs.internal.RunViews.{runs_of}
use Rattle.run_unroller.proofs.StepOutcomes.{if_ok_both, product_joins}
use Rattle.run_unroller.proofs.lists.join_outcome.Goals as goal

pub returns-in-Some : goal.returns-in-Some
returns-in-Some c = if_ok_both c.join.result (λ cause h k. product_joins (runs_of c.args.next.now.entries.entries) _ c.args.weight.now c.in-Some.product (c.args.outcome.0, stored c.args.outcome.1) cause c.in-Some.ensures h k) c.join.ensures.cause c.join.ensures.list
