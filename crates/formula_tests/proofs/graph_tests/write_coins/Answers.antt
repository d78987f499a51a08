use Rattle.formula_tests.proofs.PlainGraphs.{plain_within}
use Rattle.formula_tests.proofs.graph_tests.write_coins.Goals as goal

pub nodes-requires : goal.nodes-requires
nodes-requires c = plain_within c.thrown_often.new.graph c.in_ok-id.id c.in_ok-id.ensures

pub depth-requires : goal.depth-requires
depth-requires c = plain_within c.thrown_often.new.graph c.in_ok-id.id c.in_ok-id.ensures
