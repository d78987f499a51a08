use Rattle.std.proofs.Common.{take}
use Rattle.linear_elim.specs.internal.ChoiceSteps.{IsTightest}
use Rattle.linear_elim.proofs.ends.tightest.Given as goal

abbrev pub invariant-loop-r : goal.invariant-loop-r
invariant-loop-r l = IsTightest l.side l.x l.chosen (take l.r-index l.rows) l.found
