use Rattle.heyvl_acts.specs.PlainActs.{acts_of}
use Rattle.heyvl_acts.specs.Places.{in_order}
use Rattle.heyvl_acts.proofs.ActsAtPlaces.{act_found, act_past, arm_found, arm_past, if_start, pick_start, found_first, past_first, finds_rest}
use Rattle.heyvl_acts.proofs.places.+finding.Goals as goal

pub among-returns-in-Ok : goal.among-returns-in-Ok
among-returns-in-Ok t c = act_found _ _ _ c.loop-act.act-index c.act-item.result _ c.in-Ok.found c.loop-act-test.true c.act-item.is c.loop-act.invariant c.in-Ok.ensures

pub among-loop-act-preserved : goal.among-loop-act-preserved
among-loop-act-preserved t c = act_past _ _ _ c.loop-act.act-index c.act-item.result _ _ c.loop-act-test.true c.act-item.is c.loop-act.invariant c.in-Err.ensures

pub within-loop-arm-init : goal.within-loop-arm-init
within-loop-arm-init t c = rw c.deref-arm-items.ensures.value (if_start _ c.in-If.arms c.in-If.other c.in-If.field-2 _ c.in-If.is)

pub within-returns-in-Ok : goal.within-returns-in-Ok
within-returns-in-Ok t c = arm_found _ _ _ c.loop-arm.arm-index _ c.arm-item.result _ c.in-Ok.found c.loop-arm-test.true c.arm-item.is c.loop-arm.invariant (rw c.deref.ensures.value at c.in-Ok.ensures)

pub within-loop-arm-preserved : goal.within-loop-arm-preserved
within-loop-arm-preserved t c = arm_past _ _ _ c.loop-arm.arm-index _ c.arm-item.result _ _ c.loop-arm-test.true c.arm-item.is c.loop-arm.invariant (rw c.deref.ensures.value at c.in-Err.ensures)

pub within-returns-in-Ok-among : goal.within-returns-in-Ok-among
within-returns-in-Ok-among t c = found_first _ _ (in_order (acts_of c.in-Pick.first.items)) (in_order (acts_of c.in-Pick.second.items)) _ c.in-Ok-among.found (pick_start _ c.in-Pick.field-0 c.in-Pick.first c.in-Pick.second c.in-Pick.field-3 _ c.in-Pick.is) (rw c.deref-in-Pick.ensures.value at c.in-Ok-among.ensures)

pub within-returns-in-Err-among : goal.within-returns-in-Err-among
within-returns-in-Err-among t c =
    let b = past_first _ _ (in_order (acts_of c.in-Pick.first.items)) (in_order (acts_of c.in-Pick.second.items)) _ _ (pick_start _ c.in-Pick.field-0 c.in-Pick.first c.in-Pick.second c.in-Pick.field-3 _ c.in-Pick.is) (rw c.deref-in-Pick.ensures.value at c.in-Err-among.ensures) in
    finds_rest _ _ _ _ _ b (rw c.deref-in-Err-among.ensures.value at c.among-in-Err-among.ensures)
