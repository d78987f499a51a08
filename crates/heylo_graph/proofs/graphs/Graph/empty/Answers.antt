use Rattle.heylo_graph.proofs.StoredSizes.{stored_none}
use Rattle.heylo_graph.proofs.graphs.Graph.empty.Goals as goal

pub invariant_of-result : goal.invariant_of-result
invariant_of-result c = stored_none c.new.result.keys c.new-2.result.items c.new.ensures.empty c.new-2.ensures.items
