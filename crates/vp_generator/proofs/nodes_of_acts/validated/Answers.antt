use Rattle.heylo_graph.proofs.exported.LongerLists.{fits, co_validate_node, validate_node}
use Rattle.vp_generator.proofs.nodes_of_acts.validated.Goals as goal

pub joined-requires-clause-fits : goal.joined-requires-clause-fits
joined-requires-clause-fits c = fits c.args.graph.now _ _ (co_validate_node c.args.graph.now c.args.form _ c.requires.form.stands)

pub joined-requires-else-co-clause-fits : goal.joined-requires-else-co-clause-fits
joined-requires-else-co-clause-fits c = fits c.args.graph.now _ _ (validate_node c.args.graph.now c.args.form _ c.requires.form.stands)
