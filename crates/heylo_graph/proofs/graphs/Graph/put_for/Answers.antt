use Rattle.std.proofs.Common.{false}
use Rattle.heylo_graph.proofs.NodesOverParts.{fits, const_node, truth_node}
use Rattle.heylo_graph.proofs.graphs.Graph.put_for.Goals as goal

pub join-requires : goal.join-requires
join-requires c = fits c.args.self.now _ _ (const_node c.args.self.now c.zero.result)

pub join-requires-then-flag-2 : goal.join-requires-then-flag-2
join-requires-then-flag-2 c = fits c.args.self.now _ _ (truth_node c.args.self.now false)
