use Rattle.heylo_graph.proofs.exported.LongerLists.{fits, bind_node}
use Rattle.vp_generator.proofs.nodes_of_acts.bound.Goals as goal

pub joined-requires-clause-fits : goal.joined-requires-clause-fits
joined-requires-clause-fits c = fits c.args.graph.now _ _ (bind_node c.args.graph.now c.args.up c.args.var c.args.var c.args.ty c.args.body c.requires.body.form c.requires.body.stands)

pub returns-clause-made : goal.returns-clause-made
returns-clause-made c = λ k s. c.joined.ensures.made _ (bind_node c.args.graph.now c.args.up c.args.var c.args.var c.args.ty c.args.body k s)
