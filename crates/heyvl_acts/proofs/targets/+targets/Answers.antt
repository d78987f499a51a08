use Rattle.heyvl_acts.proofs.TargetSteps.{arms_from, if_start}
use Rattle.heyvl_acts.proofs.targets.+targets.Goals as goal
use Rattle.std.proofs.Common.{ap, ◌∙◌}

pub is_target_of_act-loop-arm-init : goal.is_target_of_act-loop-arm-init
is_target_of_act-loop-arm-init t c = ap (λ l. arms_from c.args.x l 0 c.in-If.other.items) c.deref-arm-items.ensures.value ∙ if_start c.args.x _ c.in-If.arms c.in-If.other c.in-If.field-2 c.in-If.is
