use Rattle.std.proofs.Common.{arith, map, ap, sym, ◌∙◌}
use Rattle.heyvl_acts.specs.Acts.{Act}
use Rattle.heyvl_acts.specs.PlainActs.{act_of, acts_of, arm_of, arms_of}
use Rattle.heyvl_acts.proofs.IfCopies.{branched, all_arms}
use Rattle.heyvl_acts.proofs.exported.PlainActsAre.{if_act}
use Rattle.heyvl_acts.proofs.acts.+copying.Goals as goal

pub Act::copy-loop-arm-init : goal.Act::copy-loop-arm-init
Act::copy-loop-arm-init t c = (ap (λ l. map arm_of l) c.in_ok-copied-in-If.ensures.items, ap act_of c.in-If.is ∙ (if_act _ _ _ ∙ ap (λ xs. Act.ifs (arms_of xs) (acts_of c.in-If.other.items) c.in-If.span) (sym c.deref-arm-items.ensures.value)))

pub Act::copy-returns-in_ok-copy_all-in-If-2 : goal.Act::copy-returns-in_ok-copy_all-in-If-2
Act::copy-returns-in_ok-copy_all-in-If-2 t c = branched _ _ _ _ _ _ (all_arms _ _ _ c.loop-arm.invariant.0 (omega (arith, c.loop-arm-test.false))) (c.in_ok-copy_all-in-If-2.ensures ∙ ap acts_of c.deref-in-If.ensures.value) c.loop-arm.invariant.1
