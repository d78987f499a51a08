use Rattle.std.proofs.Common.{◌∙◌, refl, sym}
use Rattle.heyvl_acts.specs.PlainActs.{acts_of}
use Rattle.heyvl_acts.specs.Places.{in_order}
use Rattle.act_walks.specs.Loops.{loop_in}
use Rattle.heyvl_acts.proofs.exported.ActsInOrder.{of_if, of_pick}
use Rattle.act_walks.proofs.FoundLoops.{act_found, act_past, arm_found, arm_past, found_first, past_first}
use Rattle.act_walks.proofs.loops.+finding.Goals as goal

pub loop_among-returns-in-Some : goal.loop_among-returns-in-Some
loop_among-returns-in-Some t c = act_found _ _ c.loop-act.act-index c.act-item.result _ c.loop-act-test.true c.act-item.is c.in-Some.ensures ∙ c.loop-act.invariant

pub loop_among-loop-act-preserved : goal.loop_among-loop-act-preserved
loop_among-loop-act-preserved t c = act_past _ _ c.loop-act.act-index c.act-item.result c.loop-act-test.true c.act-item.is c.in_default.ensures ∙ c.loop-act.invariant

pub loop_from-loop-arm-init : goal.loop_from-loop-arm-init
loop_from-loop-arm-init t c = rw c.deref-arm-items.ensures.value (of_if (loop_in c.args.number) _ c.in-If.arms c.in-If.other c.in-If.field-2 refl c.in-If.is)

pub loop_from-returns-in-Some : goal.loop_from-returns-in-Some
loop_from-returns-in-Some t c = arm_found _ _ c.loop-arm.arm-index _ c.arm-item.result _ c.loop-arm-test.true c.arm-item.is (rw c.deref-in-loop-arm.ensures.value at c.in-Some.ensures) ∙ c.loop-arm.invariant

pub loop_from-loop-arm-preserved : goal.loop_from-loop-arm-preserved
loop_from-loop-arm-preserved t c = arm_past _ _ c.loop-arm.arm-index _ c.arm-item.result c.loop-arm-test.true c.arm-item.is (rw c.deref-in-loop-arm.ensures.value at c.in_default-loop_among.ensures) ∙ c.loop-arm.invariant

pub loop_from-returns-in-Some-loop_among : goal.loop_from-returns-in-Some-loop_among
loop_from-returns-in-Some-loop_among t c =
    found_first _ (in_order (acts_of c.in-Pick.left.items)) (in_order (acts_of c.in-Pick.right.items)) _ (rw c.deref-in-Pick.ensures.value at c.in-Some-loop_among.ensures)
    ∙ of_pick (loop_in c.args.number) _ c.in-Pick.field-0 c.in-Pick.left c.in-Pick.right c.in-Pick.field-3 refl c.in-Pick.is

pub loop_from-returns-in-None : goal.loop_from-returns-in-None
loop_from-returns-in-None t c =
    (rw c.deref-in-None.ensures.value at c.loop_among-in-None.ensures)
    ∙ (sym (past_first _ (in_order (acts_of c.in-Pick.left.items)) (in_order (acts_of c.in-Pick.right.items)) (rw c.deref-in-Pick.ensures.value at c.in-None.ensures))
    ∙ of_pick (loop_in c.args.number) _ c.in-Pick.field-0 c.in-Pick.left c.in-Pick.right c.in-Pick.field-3 refl c.in-Pick.is)
