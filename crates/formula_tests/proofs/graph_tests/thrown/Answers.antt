use Rattle.formula_tests.proofs.PlainGraphs.{ok_sum, plain_longer, sum_fits}
use Rattle.formula_tests.proofs.graph_tests.thrown.Goals as goal

pub half_of-requires-2 : goal.half_of-requires-2
half_of-requires-2 c = plain_longer c.args.graph.now c.half_of.new.graph c.args.id c.requires c.in_ok-heads.ensures.begins

pub join-requires : goal.join-requires
join-requires c = sum_fits c.half_of-2.new.graph c.in_ok-heads.heads c.in_ok-tails.tails (plain_longer c.half_of.new.graph c.half_of-2.new.graph c.in_ok-heads.heads c.in_ok-heads.ensures.plain c.in_ok-tails.ensures.begins) c.in_ok-tails.ensures.plain

pub returns : goal.returns
returns c = ok_sum c.half_of-2.new.graph c.join.new.self c.in_ok-heads.heads c.in_ok-tails.tails c.join.result (plain_longer c.half_of.new.graph c.half_of-2.new.graph c.in_ok-heads.heads c.in_ok-heads.ensures.plain c.in_ok-tails.ensures.begins) c.in_ok-tails.ensures.plain c.join.ensures.tree
