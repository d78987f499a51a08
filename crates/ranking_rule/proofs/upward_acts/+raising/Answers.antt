use Rattle.std.proofs.Common.{refl, sym, ap, ap₂, ◌∙◌, arith, true}
use Rattle.heyvl_acts.proofs.exported.PlainActsAre.{any_act, if_act, pick_act, reward_act}
use Rattle.heyvl_acts.specs.Acts.{Act}
use Rattle.heyvl_acts.specs.PlainActs.{act_of, acts_of, arms_of}
use Rattle.heyvl_acts.specs.Upward.{upward, upward_arms}
use Rattle.ranking_rule.proofs.UpwardCopies.{arm_more, arms_end, arms_start, changed, left_out, turn_more, turns_end}
use Rattle.heyvl_acts.proofs.exported.Weights.{act_within, arm_within, weight, weight_of}
use Rattle.ranking_rule.proofs.upward_acts.+raising.Goals as goal

pub upward-add_upward-requires : goal.upward-add_upward-requires
upward-add_upward-requires t c = (
  (let w = act_within c.args.acts.now c.loop-act.act-index c.act-item.result c.loop-act-test.true c.act-item.is in let d = c.decreases in omega (arith, w, d)),
  tt,
)

pub upward-loop-act-preserved : goal.upward-loop-act-preserved
upward-loop-act-preserved t c = turn_more c.args.acts.now c.loop-act.raised.items _ c.loop-act.act-index c.act-item.result c.loop-act-test.true c.act-item.is c.loop-act.invariant c.in_ok-add_upward.ensures

pub upward-returns : goal.upward-returns
upward-returns t c = turns_end c.args.acts.now c.loop-act.raised.items c.loop-act.act-index c.loop-act-test.false c.loop-act.invariant

pub add_upward-loop-arm-init : goal.add_upward-loop-arm-init
add_upward-loop-arm-init t c = (arms_start c.deref-arm-items.result.now _ c.new-blocks.ensures.items, ap act_of c.in-If.is ∙ (if_act _ _ _ ∙ ap (λ xs. Act.ifs (arms_of xs) (acts_of c.in-If.other.items) c.in-If.span) (sym c.deref-arm-items.ensures.value)))

pub add_upward-upward-requires-in-loop-arm : goal.add_upward-upward-requires-in-loop-arm
add_upward-upward-requires-in-loop-arm t c = (
  (
      let w = arm_within c.deref-arm-items.result.now c.loop-arm.arm-index c.arm-item.result c.loop-arm-test.true c.arm-item.is in
      let e = ap (λ l. weight_of (acts_of l)) c.deref-in-loop-arm.ensures.value in
      let k = ap weight c.loop-arm.invariant.1 in
      let d = c.decreases in
      omega (arith, w, e, k, d)
      ),
  tt,
)

pub add_upward-loop-arm-preserved : goal.add_upward-loop-arm-preserved
add_upward-loop-arm-preserved t c = (arm_more c.deref-arm-items.result.now c.loop-arm.blocks.items c.push-in-loop-arm.new.self.items c.loop-arm.arm-index c.arm-item.result _ c.loop-arm-test.true c.arm-item.is c.loop-arm.invariant.0 c.in_ok-push-in-If.ensures.items c.in_ok-guard-in-If.ensures (rw c.deref-in-loop-arm.ensures.value at c.in_ok-upward-in-If.ensures), c.loop-arm.invariant.1)

pub add_upward-returns-in-Reward : goal.add_upward-returns-in-Reward
add_upward-returns-in-Reward t c = left_out c.args.raised.now.items (act_of c.args.act.now) _ (ap act_of c.in-Reward.is ∙ reward_act _ _) refl

pub add_upward-returns-in_ok-push-in-Any : goal.add_upward-returns-in_ok-push-in-Any
add_upward-returns-in_ok-push-in-Any t c = changed c.args.raised.now.items c.push.new.self.items _ (act_of c.args.act.now) _ _ (ap act_of c.in-Any.is ∙ any_act _ _ _ _) refl c.in_ok-push-in-Any.ensures.items (any_act _ _ _ _)

pub add_upward-returns-in_ok-push-in-Pick : goal.add_upward-returns-in_ok-push-in-Pick
add_upward-returns-in_ok-push-in-Pick t c = changed c.args.raised.now.items c.push-in-Pick.new.self.items _ (act_of c.args.act.now) _ (Act.pick true (upward (acts_of c.in-Pick.left.items)) (upward (acts_of c.in-Pick.right.items)) c.in-Pick.span) (ap act_of c.in-Pick.is ∙ pick_act _ _ _ _) refl c.in_ok-push-in-Pick.ensures.items (pick_act _ _ _ _ ∙ ap₂ (λ x y. Act.pick true x y c.in-Pick.span) (c.in_ok-first-in-Pick.ensures ∙ ap (λ l. upward (acts_of l)) c.deref.ensures.value) (c.in_ok-second-in-Pick.ensures ∙ ap (λ l. upward (acts_of l)) c.deref-in-Pick.ensures.value))

pub add_upward-returns-in_ok-push-in-If-2 : goal.add_upward-returns-in_ok-push-in-If-2
add_upward-returns-in_ok-push-in-If-2 t c = changed c.args.raised.now.items c.push-in-If.new.self.items _ (act_of c.args.act.now) _ (Act.ifs (upward_arms (arms_of c.deref-arm-items.result.now)) (upward (acts_of c.in-If.other.items)) c.in-If.span) c.loop-arm.invariant.1 refl c.in_ok-push-in-If-2.ensures.items (if_act _ _ _ ∙ ap₂ (λ x y. Act.ifs x y c.in-If.span) (arms_end c.deref-arm-items.result.now c.loop-arm.blocks.items c.loop-arm.arm-index c.loop-arm-test.false c.loop-arm.invariant.0) (c.in_ok-last-in-If.ensures ∙ ap (λ l. upward (acts_of l)) c.deref-in-If.ensures.value))
