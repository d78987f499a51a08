use Rattle.heylo_graph.proofs.exported.LongerLists.{fits, scale_node}
use Rattle.vp_generator.proofs.nodes_of_acts.scaled.Goals as goal

pub joined-requires-clause-fits : goal.joined-requires-clause-fits
joined-requires-clause-fits c = fits c.args.graph.now _ _ (scale_node c.args.graph.now c.args.weight c.args.form c.requires.form.form c.requires.form.stands)

pub returns-clause-made : goal.returns-clause-made
returns-clause-made c = λ k s. c.joined.ensures.made _ (scale_node c.args.graph.now c.args.weight c.args.form k s)
