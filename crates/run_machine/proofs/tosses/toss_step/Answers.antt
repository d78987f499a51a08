use Rattle.heylo_formula.specs.PlainTrees.{form_of}
use Rattle.heylo_formula.specs.State.{environment}
use Rattle.heyvl_acts.specs.Tosses.{toss_weight}
use Rattle.heyvl_num.specs.Exact.{exact_difference}
use Rattle.run_machine.proofs.Moves.{if_ok}
use Rattle.run_machine.proofs.TossWeights.{both_fit}
use Rattle.run_machine.proofs.tosses.toss_step.Goals as goal
use Rattle.run_machine.specs.BoundedStep.{exact_weight}
use Rattle.run_machine.specs.Names.{stored}
use Rattle.std.proofs.Common.{ap, ◌∙◌}

pub returns-in-Some-sub : goal.returns-in-Some-sub
returns-in-Some-sub c =
    let f = form_of c.args.form.now in
    let exact = c.in-Some.ensures.exact ∙ ap (λ s. exact_weight f s) c.deref.ensures.value in
    let meant = c.in-Some.ensures.meaning ∙ ap (λ s. toss_weight f (environment s)) c.deref.ensures.value in
    let rest = c.in-Some-sub.ensures ∙ ap (λ u. exact_difference u c.in-Some.weight) c.one.ensures in
    if_ok c.two_sides.result _ _ (λ x h. h ∙ both_fit (stored c.args.config.now) c.args.x f c.args.config.now.state.items c.in-Some.weight c.in-Some-sub.rest exact meant rest) c.two_sides.ensures
