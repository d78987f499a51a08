use Rattle.std.proofs.Common.{◌+◌, length}
use Rattle.heyvl_acts.specs.PlainActs.{act_of, acts_of, arms_of}
use Rattle.vp_generator.proofs.Weights.{weight, weight_of, weight_of_arms}
use Rattle.vp_generator.proofs.GeneratorSteps.{Kept, KeptArms}
use Rattle.vp_generator.proofs.generation.+generating.Given as goal

abbrev pub invariant-over_acts-acts : goal.invariant-over_acts-acts
invariant-over_acts-acts l = Kept l.most l.fn.graph l.fn.post l.acts l.graph l.rest l.form

abbrev pub decreases-over_acts-acts : goal.decreases-over_acts-acts
decreases-over_acts-acts l = length l.rest

abbrev pub invariant-over_arms-arms : goal.invariant-over_arms-arms
invariant-over_arms-arms l = KeptArms l.most l.fn.graph l.form l.fn.start l.arms l.graph l.rest l.chosen

abbrev pub decreases-over_arms-arms : goal.decreases-over_arms-arms
decreases-over_arms-arms l = length l.rest

abbrev pub decreases-over_acts : goal.decreases-over_acts
decreases-over_acts l = 1 + weight_of (acts_of l.acts.now)

abbrev pub decreases-over_act : goal.decreases-over_act
decreases-over_act l = weight (act_of l.act.now)

abbrev pub decreases-over_pick : goal.decreases-over_pick
decreases-over_pick l = 3 + (weight_of (acts_of l.a.now) + weight_of (acts_of l.b.now))

abbrev pub decreases-over_if : goal.decreases-over_if
decreases-over_if l = 3 + (weight_of_arms (arms_of l.arms.now) + weight_of (acts_of l.otherwise.now))

abbrev pub decreases-over_arms : goal.decreases-over_arms
decreases-over_arms l = 1 + weight_of_arms (arms_of l.arms.now)

abbrev pub decreases-over_arm : goal.decreases-over_arm
decreases-over_arm l = 3 + weight_of (acts_of l.arm.now.1.items)
