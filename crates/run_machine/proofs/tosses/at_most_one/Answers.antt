use Rattle.heyvl_num.specs.ExtendedNumbers.{value_of}
use Rattle.run_machine.proofs.TossWeights.{exact_is, part_of_one, weight_is}
use Rattle.run_machine.proofs.tosses.at_most_one.Goals as goal
use Rattle.std.proofs.Common.{Some, ap, ◌∙◌}
use Rattle.std.specs.declared.cmp.Ordering.TheVariants.{Equal, Greater, Less}

pub returns-in-Less-clause-meaning : goal.returns-in-Less-clause-meaning
returns-in-Less-clause-meaning c = c.finite.ensures ∙ weight_is (value_of c.args.value.now) (value_of c.one.result) c.in_ok-compare.field-0 Less c.one.ensures c.in_ok-compare.ensures c.in-Less.is

pub returns-in-Equal-clause-meaning : goal.returns-in-Equal-clause-meaning
returns-in-Equal-clause-meaning c = c.finite-in-Equal.ensures ∙ weight_is (value_of c.args.value.now) (value_of c.one.result) c.in_ok-compare.field-0 Equal c.one.ensures c.in_ok-compare.ensures c.in-Equal.is

pub returns-in-Greater-clause-exact : goal.returns-in-Greater-clause-exact
returns-in-Greater-clause-exact c = ap Some (c.one-in-Greater.ensures ∙ part_of_one) ∙ exact_is (value_of c.args.value.now) (value_of c.one.result) c.in_ok-compare.field-0 Greater c.one.ensures c.in_ok-compare.ensures c.in-Greater.is

pub returns-in-Greater-clause-meaning : goal.returns-in-Greater-clause-meaning
returns-in-Greater-clause-meaning c = c.one-in-Greater.ensures ∙ (part_of_one ∙ weight_is (value_of c.args.value.now) (value_of c.one.result) c.in_ok-compare.field-0 Greater c.one.ensures c.in_ok-compare.ensures c.in-Greater.is)
