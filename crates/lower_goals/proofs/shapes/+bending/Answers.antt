use Rattle.std.proofs.Common.{◌∙◌, refl, sym, ap}
use Rattle.heyvl_acts.specs.PlainActs.{acts_of}
use Rattle.heyvl_acts.specs.Places.{in_order}
use Rattle.lower_goals.specs.internal.Shapes.{all_straight}
use Rattle.heyvl_acts.proofs.exported.ActsInOrder.{of_if, of_pick}
use Rattle.lower_goals.proofs.LentLoops.{act_bent, act_past, arm_bent, arm_past, bent, past}
use Rattle.lower_goals.proofs.shapes.+bending.Goals as goal

pub are_straight-loop-act-preserved : goal.are_straight-loop-act-preserved
are_straight-loop-act-preserved t c = act_past _ c.loop-act.act-index c.act-item.result c.loop-act-test.true c.act-item.is (sym c.if-not-is_straight.false ∙ c.is_straight.ensures) ∙ c.loop-act.invariant

pub are_straight-returns-then-not-is_straight : goal.are_straight-returns-then-not-is_straight
are_straight-returns-then-not-is_straight t c = act_bent _ c.loop-act.act-index c.act-item.result c.loop-act-test.true c.act-item.is (sym c.if-not-is_straight.true ∙ c.is_straight.ensures) ∙ c.loop-act.invariant

pub is_straight-loop-arm-init : goal.is_straight-loop-arm-init
is_straight-loop-arm-init t c = rw c.deref-arm-items.ensures.value (of_if all_straight _ c.in-If.arms c.in-If.other c.in-If.field-2 refl c.in-If.is)

pub is_straight-returns-then-not-are_straight : goal.is_straight-returns-then-not-are_straight
is_straight-returns-then-not-are_straight t c = arm_bent _ c.loop-arm.arm-index _ c.arm-item.result c.loop-arm-test.true c.arm-item.is (sym c.if-not-are_straight.true ∙ (c.are_straight-in-loop-arm.ensures ∙ ap (λ l. all_straight (in_order (acts_of l))) c.deref-in-loop-arm.ensures.value)) ∙ c.loop-arm.invariant

pub is_straight-loop-arm-preserved : goal.is_straight-loop-arm-preserved
is_straight-loop-arm-preserved t c = arm_past _ c.loop-arm.arm-index _ c.arm-item.result c.loop-arm-test.true c.arm-item.is (sym c.if-not-are_straight.false ∙ (c.are_straight-in-loop-arm.ensures ∙ ap (λ l. all_straight (in_order (acts_of l))) c.deref-in-loop-arm.ensures.value)) ∙ c.loop-arm.invariant

pub is_straight-returns-then-are_straight : goal.is_straight-returns-then-are_straight
is_straight-returns-then-are_straight t c =
    c.are_straight-then-are_straight.ensures
    ∙ (ap (λ l. all_straight (in_order (acts_of l))) c.deref-then-are_straight.ensures.value
    ∙ (past (in_order (acts_of c.in-Pick.left.items)) (in_order (acts_of c.in-Pick.right.items)) (sym c.if-are_straight.true ∙ (c.are_straight.ensures ∙ ap (λ l. all_straight (in_order (acts_of l))) c.deref.ensures.value))
    ∙ of_pick all_straight _ c.in-Pick.field-0 c.in-Pick.left c.in-Pick.right c.in-Pick.field-3 refl c.in-Pick.is))

pub is_straight-returns-else-are_straight : goal.is_straight-returns-else-are_straight
is_straight-returns-else-are_straight t c =
    c.if-are_straight.false
    ∙ (bent (in_order (acts_of c.in-Pick.left.items)) (in_order (acts_of c.in-Pick.right.items)) (sym c.if-are_straight.false ∙ (c.are_straight.ensures ∙ ap (λ l. all_straight (in_order (acts_of l))) c.deref.ensures.value))
    ∙ of_pick all_straight _ c.in-Pick.field-0 c.in-Pick.left c.in-Pick.right c.in-Pick.field-3 refl c.in-Pick.is)
