use Rattle.std.proofs.Common.{ap, append_assoc, map, ◌++◌, ◌∙◌}
use Rattle.std.proofs.lemmas.Result.{IfOk-equal}
use Rattle.heyvl_acts.specs.Places.{in_order}
use Rattle.heyvl_acts.specs.PlainActs.{acts_of}
use Rattle.act_walks.specs.Lent.{lent}
use Rattle.act_walks.proofs.GatheredActs.{inside_if, inside_pick, next_arm_gathered, next_gathered}
use Rattle.act_walks.proofs.order.+ordering.Goals as goal

pub add_all-loop-act-preserved : goal.add_all-loop-act-preserved
add_all-loop-act-preserved t c = next_gathered _ _ _ _ _ c.loop-act.act-index c.in_ok-push.ensures.items c.in_ok-add_inside.ensures c.loop-act-test.true c.act-item.is ∙ c.loop-act.invariant

pub add_inside-loop-arm-init : goal.add_inside-loop-arm-init
add_inside-loop-arm-init t c = rw c.deref-arm-items.ensures.value (ap (λ l. map lent c.args.all.now.items ++ l) (inside_if _ c.in-If.arms c.in-If.other c.in-If.field-2 c.in-If.is))

pub add_inside-loop-arm-preserved : goal.add_inside-loop-arm-preserved
add_inside-loop-arm-preserved t c = next_arm_gathered _ _ _ c.loop-arm.arm-index _ c.arm-item.result c.loop-arm-test.true c.arm-item.is (rw c.deref.ensures.value at c.in_ok-add_all-in-If.ensures) ∙ c.loop-arm.invariant

pub add_inside-returns-in_ok-add_all-in-Pick : goal.add_inside-returns-in_ok-add_all-in-Pick
add_inside-returns-in_ok-add_all-in-Pick t c =
    let first = in_order (acts_of c.in-Pick.left.items) in
    let second = in_order (acts_of c.in-Pick.right.items) in
    IfOk-equal _ _ _ _ (rw c.deref-in-Pick-2.ensures.value at c.add_all-in-Pick-2.ensures) (ap (λ l. l ++ second) (rw c.deref-in-Pick.ensures.value at c.in_ok-add_all-in-Pick.ensures) ∙ (append_assoc (map lent c.args.all.now.items) first second ∙ ap (λ l. map lent c.args.all.now.items ++ l) (inside_pick _ c.in-Pick.field-0 c.in-Pick.left c.in-Pick.right c.in-Pick.field-3 c.in-Pick.is)))
