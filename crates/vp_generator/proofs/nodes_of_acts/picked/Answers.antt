use Rattle.heylo_graph.proofs.exported.LongerLists.{fits, min_node, max_node}
use Rattle.vp_generator.proofs.nodes_of_acts.picked.Goals as goal

pub joined-requires-clause-fits : goal.joined-requires-clause-fits
joined-requires-clause-fits c = fits c.args.graph.now _ _ (max_node c.args.graph.now c.args.first c.args.second _ _ c.requires.first.stands c.requires.second.stands)

pub joined-requires-else-up-clause-fits : goal.joined-requires-else-up-clause-fits
joined-requires-else-up-clause-fits c = fits c.args.graph.now _ _ (min_node c.args.graph.now c.args.first c.args.second _ _ c.requires.first.stands c.requires.second.stands)
