use Rattle.std.proofs.Common.{◌≡◌, drop}
use Rattle.std.specs.Prelude.{Some}
use Rattle.heyvl_num.specs.Rounding.{whole}
use Rattle.linear_elim.specs.ChoiceNumbers.{sum_without}
use Rattle.linear_elim.proofs.ends.sum_without.Given as goal

abbrev pub invariant-loop-v : goal.invariant-loop-v
invariant-loop-v l = sum_without l.x l.chosen (drop l.v-index l.v-items) (Some l.sum) ≡ sum_without l.fn.x l.fn.chosen l.fn.row.terms (Some (whole l.fn.row.rest))
