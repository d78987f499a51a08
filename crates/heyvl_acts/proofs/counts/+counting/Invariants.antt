use Rattle.heyvl_acts.proofs.CountsLeft.{Counts, acts_left, arms_left}
use Rattle.heyvl_acts.proofs.counts.+counting.Given as goal
use Rattle.heyvl_acts.specs.Count.{count_of, count_of_act}
use Rattle.heyvl_acts.specs.PlainActs.{act_of, acts_of}

abbrev pub invariant-count-loop-act : goal.invariant-count-loop-act
invariant-count-loop-act l = Counts (count_of (acts_of l.acts)) l.total (acts_left l.acts l.act-index)

abbrev pub invariant-count_of_act-loop-arm : goal.invariant-count_of_act-loop-arm
invariant-count_of_act-loop-arm l = Counts (count_of_act (act_of l.act)) l.total (arms_left l.arm-items l.arm-index)
