use Rattle.std.proofs.Common.{◌∙◌, refl, sym}
use Rattle.heyvl_acts.specs.PlainActs.{acts_of}
use Rattle.heyvl_acts.specs.Places.{in_order}
use Rattle.heyvl_acts.specs.Program.{first_break}
use Rattle.heyvl_acts.proofs.exported.ActsInOrder.{of_if}
use Rattle.proc_contracts.proofs.Breaks.{act_found, act_past, arm_found, arm_past, found_first, past_first, pick_start}
use Rattle.proc_contracts.proofs.programs.+breaking.Goals as goal

pub first_break-returns-in-Some : goal.first_break-returns-in-Some
first_break-returns-in-Some t c = act_found _ _ c.loop-act.act-index c.act-item.result _ c.loop-act-test.true c.act-item.is c.in-Some.ensures ∙ c.loop-act.invariant

pub first_break-loop-act-preserved : goal.first_break-loop-act-preserved
first_break-loop-act-preserved t c = act_past _ _ c.loop-act.act-index c.act-item.result c.loop-act-test.true c.act-item.is c.in_default.ensures ∙ c.loop-act.invariant

pub break_from-loop-arm-init : goal.break_from-loop-arm-init
break_from-loop-arm-init t c = rw c.deref-arm-items.ensures.value (of_if (first_break c.args.co) _ c.in-If.arms c.in-If.other c.in-If.field-2 refl c.in-If.is)

pub break_from-returns-in-Some-first_break : goal.break_from-returns-in-Some-first_break
break_from-returns-in-Some-first_break t c = arm_found _ _ c.loop-arm.arm-index _ c.arm-item.result _ c.loop-arm-test.true c.arm-item.is (rw c.deref-in-loop-arm.ensures.value at c.in-Some-first_break.ensures) ∙ c.loop-arm.invariant

pub break_from-loop-arm-preserved : goal.break_from-loop-arm-preserved
break_from-loop-arm-preserved t c = arm_past _ _ c.loop-arm.arm-index _ c.arm-item.result c.loop-arm-test.true c.arm-item.is (rw c.deref-in-loop-arm.ensures.value at c.in_default-first_break.ensures) ∙ c.loop-arm.invariant

pub break_from-returns-in-Some : goal.break_from-returns-in-Some
break_from-returns-in-Some t c =
    found_first _ (in_order (acts_of c.in-Pick.left.items)) (in_order (acts_of c.in-Pick.right.items)) _ (rw c.deref.ensures.value at c.in-Some.ensures)
    ∙ pick_start _ _ c.in-Pick.up c.in-Pick.left c.in-Pick.right c.in-Pick.span c.in-Pick.is c.if-co-up.false

pub break_from-returns-in-None : goal.break_from-returns-in-None
break_from-returns-in-None t c =
    (rw c.deref-in-None.ensures.value at c.first_break-in-None.ensures)
    ∙ (sym (past_first _ (in_order (acts_of c.in-Pick.left.items)) (in_order (acts_of c.in-Pick.right.items)) (rw c.deref.ensures.value at c.in-None.ensures))
    ∙ pick_start _ _ c.in-Pick.up c.in-Pick.left c.in-Pick.right c.in-Pick.span c.in-Pick.is c.if-co-up.false)
