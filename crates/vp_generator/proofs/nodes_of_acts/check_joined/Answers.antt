use Rattle.heylo_graph.proofs.exported.LongerLists.{fits, min_node, max_node, imply_node, co_imply_node}
use Rattle.vp_generator.proofs.nodes_of_acts.check_joined.Goals as goal

pub joined-requires-clause-fits : goal.joined-requires-clause-fits
joined-requires-clause-fits c = fits c.args.graph.now _ _ (min_node c.args.graph.now c.args.held c.args.form _ _ c.requires.held.stands c.requires.form.stands)

pub joined-requires-in-Assume-clause-fits : goal.joined-requires-in-Assume-clause-fits
joined-requires-in-Assume-clause-fits c = fits c.args.graph.now _ _ (imply_node c.args.graph.now c.args.held c.args.form _ _ c.requires.held.stands c.requires.form.stands)

pub joined-requires-in-CoAssert-clause-fits : goal.joined-requires-in-CoAssert-clause-fits
joined-requires-in-CoAssert-clause-fits c = fits c.args.graph.now _ _ (max_node c.args.graph.now c.args.held c.args.form _ _ c.requires.held.stands c.requires.form.stands)

pub joined-requires-in-CoAssume-clause-fits : goal.joined-requires-in-CoAssume-clause-fits
joined-requires-in-CoAssume-clause-fits c = fits c.args.graph.now _ _ (co_imply_node c.args.graph.now c.args.held c.args.form _ _ c.requires.held.stands c.requires.form.stands)
