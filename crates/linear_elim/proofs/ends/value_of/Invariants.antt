use Rattle.std.proofs.Common.{◌≡◌, drop}
use Rattle.linear_rows.specs.GreedyPoint.{chosen_value}
use Rattle.linear_elim.proofs.ends.value_of.Given as goal

abbrev pub invariant-loop-v : goal.invariant-loop-v
invariant-loop-v l = chosen_value l.x (drop l.v-index l.chosen) ≡ chosen_value l.fn.x l.fn.chosen
