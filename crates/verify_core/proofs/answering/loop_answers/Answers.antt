use Rattle.std.proofs.Common.{ap, append_assoc, ◌++◌, ◌∙◌}
use Rattle.verify_core.specs.Outcomes.{all_shown, shown}
use Rattle.verify_core.proofs.GoalOutcomes.{answer_more, shown_more}
use Rattle.verify_core.proofs.answering.loop_answers.Goals as goal

pub loop-one-preserved : goal.loop-one-preserved
loop-one-preserved c =
    let made = c.args.made.now.items in
    let done = c.loop-one.yielded in
    let one = c.in-Some.one in
    record {
      loops = answer_more done one c.loop-one.loops.items c.push.new.self.items _ c.in_ok-push.ensures.items c.loop-one.invariant.loops c.loop_number-number.ensures c.rank_of.ensures;
      made = c.in_ok-show.ensures ∙ (ap (λ l. l ++ shown one) c.loop-one.invariant.made ∙ (append_assoc made (all_shown done) (shown one) ∙ ap (λ l. made ++ l) (shown_more done one)));
    }
