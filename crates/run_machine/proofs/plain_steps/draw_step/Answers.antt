use Rattle.std.proofs.Common.{ap, ◌∙◌}
use Rattle.heylo_formula.specs.Meaning.{term_value}
use Rattle.heylo_formula.specs.PlainTrees.{term_of}
use Rattle.heylo_formula.specs.State.{environment}
use Rattle.run_machine.specs.BoundedStep.{exact_term}
use Rattle.run_machine.specs.Names.{stored}
use Rattle.run_machine.proofs.Draws.{parts_next, draw_more}
use Rattle.run_machine.proofs.plain_steps.draw_step.Goals as goal

pub loop-part-preserved : goal.loop-part-preserved
loop-part-preserved c =
    let fits = c.in-Some.ensures.exact ∙ ap (λ s. exact_term (term_of c.part-item.result.1) s) c.deref.ensures.value in
    let meant = c.in-Some.ensures.meaning ∙ ap (λ s. term_value (term_of c.part-item.result.1) (environment s)) c.deref.ensures.value in
    record {
      fits = c.loop-part.invariant.fits ∙ parts_next c.args.config.now.state.items c.args.parts.now c.loop-part.part-index c.part-item.result c.in-Some.value c.loop-part-test.true c.part-item.is fits;
      outcomes = c.loop-part.invariant.outcomes ∙ draw_more (stored c.args.config.now) c.args.x c.args.parts.now c.loop-part.part-index c.part-item.result c.loop-part.outcomes.items c.push.new.self.items c.in_ok-next-in-Some.next c.in-Some.value c.loop-part-test.true c.part-item.is c.in_ok-push-in-Some.ensures.items c.in_ok-next-in-Some.ensures meant;
    }
