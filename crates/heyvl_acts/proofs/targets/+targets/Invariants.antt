use Rattle.heyvl_acts.proofs.TargetSteps.{arms_from}
use Rattle.heyvl_acts.proofs.targets.+targets.Given as goal
use Rattle.heyvl_acts.specs.ModifiedVariables.{is_target_of, is_target_of_act}
use Rattle.heyvl_acts.specs.PlainActs.{act_of, acts_of}
use Rattle.std.proofs.Common.{drop, ◌≡◌}

-- No visited act assigns the variable.
abbrev pub invariant-is_target-loop-act : goal.invariant-is_target-loop-act
invariant-is_target-loop-act l = is_target_of l.x (acts_of (drop l.act-index l.acts)) ≡ is_target_of l.x (acts_of l.acts)

abbrev pub invariant-is_target_of_act-loop-arm : goal.invariant-is_target_of_act-loop-arm
invariant-is_target_of_act-loop-arm l = arms_from l.x l.arm-items l.arm-index l.other.items ≡ is_target_of_act l.x (act_of l.act)
